-- A sector that an address names lies inside the lent memory.
use mathlib.Core.Path.{◌≡◌}
use mathlib.Core.List.{List}
use Prim.Native.Nat.{ℕ, ◌+◌, ◌*◌, ◌≤◌, ◌<◌}
use native.Mathlib.Omega.{arith}
use lib.ListN.{length}
use Rattle.geometry.specs.Geometry.{capacity_of}
use Rattle.geometry.specs.declared.Geometry.{Geometry}
use Rattle.geometry.specs.declared.Translation.{Translation}
use Rattle.address.specs.Address.{address_of}
use Rattle.address.specs.declared.AddressRegisters.{AddressRegisters}
use Rattle.address.specs.declared.Address.TheVariants.{Names}
use Rattle.address.specs.declared.Sector.{Sector}
use Rattle.address.proofs.Addresses.{address_below}
use Rattle.transfers.specs.Sectors.{Memory}

-- a named sector is whole inside the memory
pub memory_room : {g : Geometry} {t : Translation} {m : List ℕ} → Memory g t m → (at : AddressRegisters) (x : Sector) → address_of g t at ≡ Names x
    → 512 * x.number + 512 ≤ length m
memory_room {g} {t} {m} k at x e =
    let below : x.number < capacity_of g = address_below g t at x k.allowed e in
    let long : length m ≡ 512 * capacity_of g = k.long in
    omega arith
