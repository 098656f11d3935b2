-- A device in shape over its memory stays so through any session, which is therefore made of the disk's own actions.
use Prim.Native.Nat.{ℕ}
use mathlib.Core.Path.{◌≡◌, refl, ap, subst, ◌∙◌}
use mathlib.Core.List.{List, [], ◌∷◌}
use Rattle.face.specs.declared.Action.{Action}
use Rattle.device.specs.Alone.{Step, alone_of}
use Rattle.device.specs.Host.{step_of}
use Rattle.device.specs.declared.Device.{Device}
use Rattle.laws.proofs.Steps.{ready_step}
use Rattle.laws.proofs.Lengths.{Whole, step_whole}
use Rattle.laws.specs.Sessions.{led, session_of}

pub session_whole : (d : Device) (m : List ℕ) (l : List Action) → Whole d m → Whole (session_of step_of d m l).device (session_of step_of d m l).sectors
unfolding session_of
session_whole d m [] k = k
session_whole d m (a ∷ l) k = session_whole (step_of d m a).outcome.device (step_of d m a).sectors l (step_whole d m a k)

pub alone_session : (d : Device) (m : List ℕ) (l : List Action) → Whole d m → session_of step_of d m l ≡ session_of alone_of d m l
unfolding session_of
alone_session d m [] k = refl
alone_session d m (a ∷ l) k =
    let e = ready_step d m a k.ready in
    let next = subst (λ (s : Step). Whole s.outcome.device s.sectors) e (step_whole d m a k) in
    ap (λ (s : Step). led s (session_of step_of s.outcome.device s.sectors l)) e ∙ ap (led (alone_of d m a)) (alone_session (alone_of d m a).outcome.device (alone_of d m a).sectors l next)
