-- Demand 3: by induction on the actions, a locked device that accepts no block answers as its face says and keeps its passwords and sectors; just powered-on, the face is the same.
use mathlib.Core.Path.{◌≡◌, refl, sym, ap, ◌∙◌}
use mathlib.Core.Bool.{true}
use mathlib.Core.List.{List, [], ◌∷◌}
use Prim.Native.Nat.{ℕ}
use Rattle.lock.specs.Lock.{is_locked}
use Rattle.lock.proofs.Sound.{fits_sound}
use Rattle.settled.proofs.Clauses.{settled_clauses}
use Rattle.face.specs.declared.Face.{Face}
use Rattle.face.specs.declared.Action.{Action}
use Rattle.device.specs.Alone.{device_of, Step}
use Rattle.device.specs.Host.{Ready, step_of}
use Rattle.device.specs.declared.Device.{Device}
use Rattle.laws.proofs.Shape.{guard}
use Rattle.laws.proofs.Steps.{ready_fits, ready_step, ready_after}
use Rattle.laws.specs.Sessions.{Session, led, session_of}
use Rattle.room.specs.Blocks.{accepted_of, never_accepted}
use Rattle.room.specs.Guest.{guest_step, guest_answers, guest_face}
use Rattle.room.specs.Claims.{security_in, Guarded, AlikeOutside, Untouched, KeepsTheSecret, AnswersByFace, AnswersByOutside}
use Rattle.room.proofs.Kept.{guest_locked}
use Rattle.room.proofs.GuestStep.{guest_leaves, step_guest}
use Rattle.room.proofs.Started.{started_by, guarded_face, guarded_locked}

-- ---- one action

-- locked and in shape, security is enabled
pub locked_enabled : (d : Device) (m : List ℕ) → Ready d m → is_locked (security_in d).lock ≡ true → (security_in d).enabled ≡ true
locked_enabled d m k h =
    (fits_sound (security_in d) (settled_clauses d.face.settled (ready_fits d m k).sound).security).sure h

-- the device that the guest's step leaves, with its own passwords
abbrev pub guest_left : Device → Action → Device
guest_left d a = device_of (guest_step d.face a).left d.secrets

pub guest_ready : (d : Device) (m : List ℕ) (a : Action) → Ready d m → step_of d m a ≡ guest_leaves d m a → Ready (guest_left d a) m
guest_ready d m a k e = ready_after d m a (guest_leaves d m a) k (sym (ready_step d m a k) ∙ e) refl

-- ---- any actions

pub answers_by_face : AnswersByFace step_of
unfolding session_of never_accepted guest_answers guest_face
answers_by_face d m [] k h e = refl
answers_by_face d m (a ∷ l) k h e =
    let g = guard (accepted_of d a) _ e in
    let s = step_guest d m a k h g.0 in
    let rest =
    answers_by_face (guest_left d a) m l (guest_ready d m a k s) (guest_locked d.face a h (locked_enabled d m k h))
    (sym (ap (λ (t : Step). never_accepted step_of t.outcome.device t.sectors l) s) ∙ g.1) in
    ap (λ (t : Step). led t (session_of step_of t.outcome.device t.sectors l)) s ∙ ap (led (guest_leaves d m a)) rest

pub answers_by_outside : AnswersByOutside step_of
answers_by_outside d m l g e =
    ap (λ (s : Session). s.answers) (answers_by_face d m l g.ready (guarded_locked g) e) ∙ ap (λ (f : Face). guest_answers f l) (guarded_face g)

-- ---- two devices

untouched : (d : Device) (m : List ℕ) (l : List Action) → Guarded step_of d m → never_accepted step_of d m l ≡ true → Untouched step_of d m l
untouched d m l g e =
    let s = answers_by_face d m l g.ready (guarded_locked g) e in
    record { sectors = ap (λ (t : Session). t.sectors) s; passwords = ap (λ (t : Session). t.device.secrets) s }

same_face : {d e : Device} → AlikeOutside d e → started_by d true ≡ started_by e true
same_face o = rw (o.geometry, o.identity, o.level)

pub keeps_the_secret : KeepsTheSecret step_of
keeps_the_secret d e m n l g h o p q =
    record {
      answers = answers_by_outside d m l g p ∙ ap (λ (f : Face). guest_answers f l) (same_face o) ∙ sym (answers_by_outside e n l h q);
      first = untouched d m l g p;
      second = untouched e n l h q;
    }
