-- A device in shape over its memory stays so, and its host action is the action itself.
use Prim.Native.Nat.{ℕ, ◌*◌}
use mathlib.Core.Bool.{false}
use mathlib.Core.Path.{◌≡◌, sym, ap, ◌∙◌}
use mathlib.Core.List.{List}
use lib.ListN.{length}
use borrow.Author.Tests.{eq-eqb}
use Rattle.base.proofs.Tests.{either_way}
use Rattle.geometry.specs.Geometry.{capacity_of}
use Rattle.geometry.specs.declared.Geometry.{Geometry}
use Rattle.face.specs.declared.Action.{Action}
use Rattle.fastpath.specs.Dev.{dev_set, unanswered_of, ignored_of}
use Rattle.shape.proofs.Clauses.{Fits, shape_clauses}
use Rattle.device.specs.Alone.{Step, acted_of, alone_of}
use Rattle.device.specs.Host.{Ready, shaped_of, step_of, memory_length}
use Rattle.device.specs.declared.Device.{Device}
use Rattle.device.proofs.Memories.{shaped_disk}
use Rattle.laws.proofs.Reached.{alone_shaped}
use Rattle.laws.proofs.Built.{alone_built}

pub ready_fits : (d : Device) (m : List ℕ) → Ready d m → Fits d.face
ready_fits d m k = shape_clauses d.face (shaped_disk d k.shaped).0

pub ready_step : (d : Device) (m : List ℕ) (a : Action) → Ready d m → step_of d m a ≡ alone_of d m a
unfolding step_of
ready_step d m a k = simp (k.shaped, eq-eqb _ _ k.long)

pub ready_after : (d : Device) (m : List ℕ) (a : Action) (e : Step) → Ready d m → alone_of d m a ≡ e → length e.sectors ≡ length m → Ready e.outcome.device e.sectors
ready_after d m a e k h l =
    record {
      shaped = sym (ap (λ (s : Step). shaped_of s.outcome.device) h) ∙ alone_shaped d m a k.shaped;
      long =
          l ∙ k.long ∙ sym (ap (λ (g : Geometry). 512 * capacity_of g) (alone_built d m a).geometry)
          ∙ ap (λ (s : Step). memory_length s.outcome.device) h;
    }

-- with DEV clear every action is the disk's
pub clear_acts : (d : Device) (m : List ℕ) (a : Action) → dev_set d.face.hot ≡ false → alone_of d m a ≡ acted_of d m a
unfolding alone_of ignored_of
clear_acts d m a e = either_way (unanswered_of a) (λ q. simp (q, e)) (λ q. simp q)
