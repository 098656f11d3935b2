-- A locked device opens exactly by a block that it accepts: judged, such a block opens or erases; all else goes the guest's way, which stays locked.
use mathlib.Core.Path.{◌≡◌, refl, sym, ap, ◌∙◌}
use mathlib.Core.Bool.{true, not}
use mathlib.Core.List.{List}
use Prim.Native.Nat.{ℕ}
use Rattle.base.proofs.Tests.{false≢true, both_true, either_way}
use Rattle.lock.specs.Lock.{is_locked}
use Rattle.lock.specs.declared.Lock.TheVariants.{Open}
use Rattle.lock.specs.declared.Security.{Security}
use Rattle.lock.specs.declared.Secrets.{Secrets}
use Rattle.lock.specs.declared.Purpose.{Purpose}
use Rattle.lock.specs.declared.Purpose.TheVariants.{Set, Unlock, Erase, Disable}
use Rattle.judging.specs.Passwords.{matches_of}
use Rattle.judging.specs.Judging.{master_at_maximum, unlock_locked, unlock_of, accepts_of, erase_of, judge_of}
use Rattle.face.specs.declared.Action.{Action}
use Rattle.face.specs.declared.Face.{Face}
use Rattle.device.specs.Alone.{Step}
use Rattle.device.specs.Host.{Ready, step_of}
use Rattle.device.specs.declared.Device.{Device}
use Rattle.laws.proofs.Shape.{guard}
use Rattle.laws.proofs.Opens.{block_with, last_word_face}
use Rattle.room.specs.Blocks.{unlock_accepts, erase_accepts, block_accepted, accepted_of}
use Rattle.room.specs.Claims.{security_in, AcceptedOpens}
use Rattle.room.proofs.Completed.{completed}
use Rattle.room.proofs.Kept.{guest_locked}
use Rattle.room.proofs.GuestStep.{step_guest}
use Rattle.room.proofs.Secrecy.{locked_enabled}

-- an accepted block is judged so that the device is open
judged_open : (s : Security) (x : Secrets) (p : Purpose) (b : List ℕ) → block_accepted s x p b ≡ true → (judge_of p s x b).security.lock ≡ Open
unfolding unlock_accepts erase_accepts judge_of unlock_of unlock_locked erase_of
judged_open s x Set b e = absurd (false≢true e)
judged_open s x Unlock b e =
    let q = both_true (is_locked s.lock) _ e in
    let r = guard (master_at_maximum s b) (matches_of x b) q.1 in
    simp (q.0, r.0, r.1)
judged_open s x Erase b e = simp (both_true (is_locked s.lock) (accepts_of s x b) e).1
judged_open s x Disable b e = absurd (false≢true e)

opens : (d : Device) (m : List ℕ) (a : Action) → Ready d m → accepted_of d a ≡ true → (security_in (step_of d m a).outcome.device).lock ≡ Open
unfolding accepted_of
opens d m a k e =
    let c = completed (block_accepted (security_in d) d.secrets) d.face a e in
    let b = c.block in
    ap (λ (x : Action). (security_in (step_of d m x).outcome.device).lock) c.is
    ∙ ap (λ (f : Face). f.settled.security.lock) (last_word_face d m b.purpose b c.word k record { opened = c.opened; purpose = refl; last = c.last })
    ∙ judged_open (security_in d) d.secrets b.purpose (block_with d b c.word) c.passes

pub accepted_opens : AcceptedOpens step_of
accepted_opens d m a k h =
    either_way (accepted_of d a)
    (λ e. rw (opens d m a k e) e)
    (λ e. e ∙ sym (ap (λ (s : Step). not (is_locked (security_in s.outcome.device).lock)) (step_guest d m a k h e)
    ∙ ap not (guest_locked d.face a h (locked_enabled d m k h))))
