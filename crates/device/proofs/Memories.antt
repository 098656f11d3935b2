-- In shape and over memory of the right length, the lent memory is this disk's.
use mathlib.Core.Bool.{true}
use mathlib.Core.Path.{◌≡◌}
use mathlib.Core.List.{List}
use Prim.Native.Nat.{ℕ}
use lib.ListN.{length}
use Rattle.base.proofs.Tests.{both_true}
use Rattle.settled.proofs.Clauses.{settled_clauses}
use Rattle.transfers.specs.Sectors.{Memory}
use Rattle.shape.specs.Shape.{disk_fits}
use Rattle.shape.proofs.Clauses.{shape_clauses}
use Rattle.device.specs.Host.{alone_fits, shaped_of, memory_length}
use Rattle.device.specs.declared.Device.{Device}

pub shaped_disk : (d : Device) → shaped_of d ≡ true → (disk_fits d.face ≡ true) × (alone_fits d.face.hot ≡ true)
unfolding shaped_of
shaped_disk d e = both_true (disk_fits d.face) (alone_fits d.face.hot) e

pub shaped_memory : (d : Device) (m : List ℕ) → shaped_of d ≡ true → length m ≡ memory_length d → Memory d.face.settled.geometry d.face.settled.translation m
shaped_memory d m e l =
    record { allowed = (settled_clauses d.face.settled (shape_clauses d.face (shaped_disk d e).0).sound).translation; long = l }
