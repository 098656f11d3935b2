-- What a disk was built with stays: no action changes its geometry or its identity.
use mathlib.Core.Path.{◌≡◌, refl}
use mathlib.Core.List.{List}
use Prim.Native.Nat.{ℕ}
use Rattle.base.proofs.Tests.{pick_both}
use Rattle.settled.specs.declared.Settled.{Settled}
use Rattle.face.specs.declared.Face.{Face}
use Rattle.face.specs.declared.Action.{Action}
use Rattle.fastpath.specs.Dev.{ignored_of}
use Rattle.device.specs.Alone.{Step, alone_of}
use Rattle.device.specs.declared.Device.{Device}
use Rattle.laws.proofs.Settling.{Closed, act_settles}

-- geometry and identity are those of s
pub record Built (s : Settled) (f : Face) : Type 0 where
  pub geometry : f.settled.geometry ≡ s.geometry
  pub identity : f.settled.identity ≡ s.identity

-- the same, of a settled part
abbrev Same : Settled → Settled → Type 0
Same s t = (t.geometry ≡ s.geometry) × (t.identity ≡ s.identity)

same_closed : (s : Settled) → Closed (Same s)
same_closed s = record { translation = λ t u p. p; prepared = λ t p. p; unprepared = λ t p. p; frozen = λ t l p. p }

pub alone_built : (d : Device) (m : List ℕ) (a : Action) → Built d.face.settled (alone_of d m a).outcome.device.face
unfolding alone_of
alone_built d m a =
    let acted = act_settles (same_closed d.face.settled) d.face d.secrets m a (refl, refl) (λ u b. (refl, refl)) (refl, refl) in
    pick_both (λ (s : Step). Built d.face.settled s.outcome.device.face) (ignored_of d.face.hot a) _ _ record { geometry = refl; identity = refl }
    record { geometry = acted.0; identity = acted.1 }
