-- The fast path of a device alone on its cable is its action, DEV set or not.
use mathlib.Core.Path.{◌≡◌, refl, sym, ap, ◌∙◌}
use mathlib.Core.List.{List}
use Prim.Native.Nat.{ℕ}
use Rattle.std.specs.Prelude.{Option, Some, None}
use Rattle.base.proofs.Tests.{either_way}
use Rattle.face.specs.declared.Hot.{Hot}
use Rattle.face.specs.declared.Shows.{Shows}
use Rattle.face.specs.declared.Action.{Action}
use Rattle.password.proofs.FastWord.{quick_then}
use Rattle.disk.specs.Actions.{act_of}
use Rattle.disk.proofs.FastPath.{quick_act}
use Rattle.device.specs.Alone.{Step, step_as, alone_of, quick_outcome}
use Rattle.fastpath.specs.Dev.{ignored_of, quick_alone, quick_alone_buffer}
use Rattle.fastpath.specs.Quick.{quick_of, quick_buffer}
use Rattle.device.specs.declared.Device.{Device}

-- what the fast path settled, put in place; else what the long way gives
abbrev pub quick_step : Device → List ℕ → List ℕ → Option (Shows Hot) → Step → Step
quick_step d m b (Some s) slow = record { outcome = quick_outcome d b s; sectors = m }
quick_step d m b None slow = slow

step_then : (d : Device) (m b : List ℕ) (q : Option (Shows Hot)) (a : Action)
    → step_as (quick_then d.face d.secrets m b q (act_of d.face d.secrets m a)) ≡ quick_step d m b q (step_as (act_of d.face d.secrets m a))
step_then d m b (Some s) a = refl
step_then d m b None a = refl

-- with no hypothesis at all
pub quick_step_law : (d : Device) (m : List ℕ) (a : Action)
    → alone_of d m a ≡ quick_step d m (quick_alone_buffer d.face.hot d.face.buffer a) (quick_alone d.face.hot d.face.buffer a) (alone_of d m a)
unfolding alone_of quick_alone quick_alone_buffer
quick_step_law d m a =
    either_way (ignored_of d.face.hot a)
    (λ e. simp e)
    (λ e. simp e (ap step_as (quick_act d.face d.secrets m a) ∙ step_then d m (quick_buffer d.face.hot d.face.buffer a) (quick_of d.face.hot d.face.buffer a) a))

-- the step where the fast path settles it
pub quick_settles : (d : Device) (m : List ℕ) (a : Action) (b : List ℕ) (s : Shows Hot)
    → quick_alone d.face.hot d.face.buffer a ≡ Some s → b ≡ quick_alone_buffer d.face.hot d.face.buffer a
    → alone_of d m a ≡ record { outcome = quick_outcome d b s; sectors = m }
quick_settles d m a b s e h =
    quick_step_law d m a
    ∙ ap (λ (q : Option (Shows Hot)). quick_step d m (quick_alone_buffer d.face.hot d.face.buffer a) q (alone_of d m a)) e
    ∙ ap (λ (c : List ℕ). record { outcome = quick_outcome d c s; sectors = m }) (sym h)
