-- Five mismatches: attempts left and mismatches are five together after any actions; with none left the device is locked, shut out until a start; with some left a right block opens.
use mathlib.Core.Path.{◌≡◌, refl, sym, ap, ◌∙◌}
use mathlib.Core.Bool.{Bool, true, false, not}
use mathlib.Core.List.{List, [], ◌∷◌, map}
use Prim.Native.Nat.{ℕ, ◌+◌, ◌<◌}
use native.Mathlib.Omega.{arith}
use Rattle.base.specs.Choice.{pick}
use Rattle.base.proofs.Tests.{false≢true, both_true, either_way}
use Rattle.lock.specs.Lock.{is_locked}
use Rattle.lock.specs.declared.Security.{Security}
use Rattle.lock.specs.declared.Secrets.{Secrets}
use Rattle.lock.specs.declared.Purpose.{Purpose}
use Rattle.lock.specs.declared.Purpose.TheVariants.{Set, Unlock, Erase, Disable}
use Rattle.judging.specs.Passwords.{matches_of}
use Rattle.judging.specs.Judging.{master_at_maximum}
use Rattle.face.specs.declared.Face.{Face}
use Rattle.face.specs.declared.Action.{Action}
use Rattle.face.specs.declared.Action.TheVariants.{WriteWord}
use Rattle.device.specs.Alone.{Step}
use Rattle.device.specs.Host.{Ready, step_of}
use Rattle.device.specs.declared.Device.{Device}
use Rattle.laws.proofs.Lengths.{Whole, step_whole}
use Rattle.laws.specs.Sessions.{session_of}
use Rattle.room.specs.Blocks.{unlock_accepts, block_accepted, accepted_of, unlock_mismatch, mismatch_of, restarts, counted_of, mismatches_from, never_restarts}
use Rattle.room.specs.Claims.{security_in, JustPoweredOn, AttemptsCounted, ShutAfterFive, unlock_with, OpensBeforeFive, RightOneShutOut}
use Rattle.room.proofs.Completed.{completed, completed_other}
use Rattle.room.proofs.Kept.{guest_locked}
use Rattle.room.proofs.GuestStep.{guest_leaves, step_guest}
use Rattle.room.proofs.Started.{started_face_law, started_whole}
use Rattle.room.proofs.Secrecy.{locked_enabled}
use Rattle.room.proofs.Counting.{Five, step_five}
use Rattle.room.proofs.Shutting.{five_spent, shut_step, shut_session, unlock_aborts}
use Rattle.room.proofs.Opening.{right_words_open}

-- ---- a mismatch is of a locked device, and not accepted

-- locked, and the block that this action completes is not accepted
abbrev LockedRefusal : Security → Bool → Type 0
LockedRefusal s accepted = (is_locked s.lock ≡ true) × (accepted ≡ false)

mismatch_refused : (s : Security) (x : Secrets) (p : Purpose) (b : List ℕ) → unlock_mismatch s x p b ≡ true → LockedRefusal s (block_accepted s x p b)
unfolding unlock_accepts
mismatch_refused s x Set b e = absurd (false≢true e)
mismatch_refused s x Unlock b e =
    let q = both_true (is_locked s.lock) _ e in (q.0, rw q.0 (refusal (master_at_maximum s b) (matches_of x b) q.1))
  where
    refusal : (barred matches : Bool) → pick barred false (not matches) ≡ true → pick barred false matches ≡ false
    refusal true matches q = refl
    refusal false true q = sym q
    refusal false false q = refl
mismatch_refused s x Erase b e = absurd (false≢true e)
mismatch_refused s x Disable b e = absurd (false≢true e)

mismatch_locked : (d : Device) (a : Action) → mismatch_of d a ≡ true → LockedRefusal (security_in d) (accepted_of d a)
unfolding mismatch_of accepted_of
mismatch_locked d a e =
    let c = completed (unlock_mismatch (security_in d) d.secrets) d.face a e in
    let r = mismatch_refused (security_in d) d.secrets c.block.purpose _ c.passes in
    (r.0, completed_other _ (block_accepted (security_in d) d.secrets) d.face a c ∙ r.1)

-- ---- with no attempts left it is locked

-- attempts left and mismatches are five together, and with none left it is locked
record Counted (d : Device) (n : ℕ) : Type 0 where
  five : Five (security_in d) n
  locked : n ≡ 5 → is_locked (security_in d).lock ≡ true

-- the guest's way keeps it locked
stays_locked : (d : Device) (m : List ℕ) (a : Action) → Ready d m → is_locked (security_in d).lock ≡ true → step_of d m a ≡ guest_leaves d m a
    → is_locked (security_in (step_of d m a).outcome.device).lock ≡ true
stays_locked d m a k h s =
    ap (λ (t : Step). is_locked (security_in t.outcome.device).lock) s ∙ guest_locked d.face a h (locked_enabled d m k h)

unmoved : (restart mismatch : Bool) (n : ℕ) → mismatch ≡ false → pick restart 0 (pick mismatch (n + 1) n) ≡ 5 → n ≡ 5
unmoved true mismatch n e h = absurd (let q : 0 ≡ 5 = h in omega arith)
unmoved false true n e h = absurd (false≢true (sym e))
unmoved false false n e h = h

step_counted : (d : Device) (m : List ℕ) (a : Action) (n : ℕ) → Ready d m → Counted d n → Counted (step_of d m a).outcome.device (counted_of n d a)
unfolding counted_of
step_counted d m a n k c =
    record { five = step_five d m a n k c.five; locked = λ e. either_way (mismatch_of d a) (at_mismatch) (at_five e) }
  where
    at_mismatch : mismatch_of d a ≡ true → is_locked (security_in (step_of d m a).outcome.device).lock ≡ true
    at_mismatch q = let r = mismatch_locked d a q in stays_locked d m a k r.0 (step_guest d m a k r.0 r.1)

    at_five : counted_of n d a ≡ 5 → mismatch_of d a ≡ false → is_locked (security_in (step_of d m a).outcome.device).lock ≡ true
    at_five e q =
        let z : n ≡ 5 = unmoved (restarts a) (mismatch_of d a) n q e in
        let h = c.locked z in
        stays_locked d m a k h (shut_step d m a record { ready = k; locked = h; spent = five_spent (security_in d) n (omega arith) c.five })

-- ---- any actions

-- in shape, and counted
record Reckoned (d : Device) (m : List ℕ) (n : ℕ) : Type 0 where
  whole : Whole d m
  counted : Counted d n

session_reckoned : (d : Device) (m : List ℕ) (l : List Action) (n : ℕ) → Reckoned d m n
    → Reckoned (session_of step_of d m l).device (session_of step_of d m l).sectors (mismatches_from step_of n d m l)
unfolding session_of mismatches_from
session_reckoned d m [] n k = k
session_reckoned d m (a ∷ l) n k =
    session_reckoned (step_of d m a).outcome.device (step_of d m a).sectors l (counted_of n d a)
    record { whole = step_whole d m a k.whole; counted = step_counted d m a n k.whole.ready k.counted }

-- from a power-on
started_reckoned : (d : Device) (m : List ℕ) → Ready d m → JustPoweredOn step_of d → Reckoned d m 0
started_reckoned d m k p =
    record {
      whole = started_whole d m k p;
      counted =
          record {
            five = record { is = ap (λ (f : Face). f.settled.security.attempts + 0) (started_face_law d p) };
            locked = λ e. absurd (let q : 0 ≡ 5 = e in omega arith);
          };
    }

pub attempts_counted : AttemptsCounted step_of
attempts_counted d m l k p = (session_reckoned d m l 0 (started_reckoned d m k p)).counted.five.is

pub shut_after_five : ShutAfterFive step_of
shut_after_five d m l a k p e n =
    let s = session_reckoned d m l 0 (started_reckoned d m k p) in
    let t = shut_session _ _ a
    record { ready = s.whole.ready; locked = s.counted.locked e; spent = five_spent _ (mismatches_from step_of 0 d m l) (omega (arith, e)) s.counted.five }
    n in
    record {
      locked = t.shut.locked;
      untouched = record { sectors = t.sectors; passwords = t.passwords };
      aborts = unlock_aborts _ _ t.shut;
    }

pub opens_before_five : OpensBeforeFive step_of
opens_before_five d m l ws k p e h r =
    let s = session_reckoned d m l 0 (started_reckoned d m k p) in
    right_words_open _ _ ws s.whole.ready h (left s.counted.five.is) r
  where
    left : (security_in (session_of step_of d m l).device).attempts + mismatches_from step_of 0 d m l ≡ 5 → 0 < (security_in (session_of step_of d m l).device).attempts
    left q = omega (arith, e)

words_never : (ws : List ℕ) → never_restarts (map WriteWord ws) ≡ true
unfolding never_restarts
words_never [] = refl
words_never (w ∷ ws) = words_never ws

pub right_one_shut_out : RightOneShutOut step_of
unfolding never_restarts
right_one_shut_out d m l ws k p e = (shut_after_five d m l (unlock_with ws) k p e (words_never ws)).locked
