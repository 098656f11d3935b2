-- A password block leaves security settings in shape where they were so.
use mathlib.Core.Bool.{Bool, true, false}
use mathlib.Core.Path.{refl}
use mathlib.Core.List.{List}
use Prim.Native.Nat.{ℕ, ◌≤◌}
use native.Mathlib.Omega.{arith}
use lib.Dec.{ltb}
use Rattle.base.specs.Choice.{pick}
use Rattle.base.proofs.Tests.{false≢true, either_way}
use Rattle.lock.specs.Lock.{is_locked}
use Rattle.judging.specs.Judging.{opened_of, mismatched_of, set_of, master_at_maximum, unlock_locked, unlock_of, accepts_of, erase_of, disable_of, judge_of}
use Rattle.judging.specs.Passwords.{master_picked, matches_of}
use Rattle.lock.specs.declared.Security.{Security}
use Rattle.lock.specs.declared.Secrets.{Secrets}
use Rattle.judging.specs.declared.Judged.{Judged}
use Rattle.lock.specs.declared.Purpose.{Purpose}
use Rattle.lock.specs.declared.Purpose.TheVariants.{Set, Unlock, Erase, Disable}
use Rattle.lock.proofs.Sound.{Sound}

open_sound : (s : Security) → s.attempts ≤ 5 → Sound (opened_of s)
open_sound s k = record { few = k; sure = λ l. absurd (false≢true l) }

mismatch_sound : (s : Security) → Sound s → Sound (mismatched_of s)
unfolding mismatched_of
mismatch_sound s k =
    either_way (ltb 0 s.attempts)
    (λ e. rw e record { few = let h : s.attempts ≤ 5 = k.few in omega arith; sure = k.sure })
    (λ e. rw e k)

-- one of two judgements
pick_sound : (b : Bool) (j k : Judged) → Sound j.security → Sound k.security → Sound (pick b j k).security
pick_sound true j k p q = p
pick_sound false j k p q = q

set_sound : (s : Security) (x : Secrets) (b : List ℕ) → Sound s → Sound (set_of s x b).security
unfolding set_of
set_sound s x b k = pick_sound (master_picked b) _ _ k record { few = k.few; sure = λ l. refl }

unlock_sound : (s : Security) (x : Secrets) (b : List ℕ) → Sound s → Sound (unlock_of s x b).security
unfolding unlock_of unlock_locked
unlock_sound s x b k =
    pick_sound (is_locked s.lock) _ _
    (pick_sound (master_at_maximum s b) _ _ k (pick_sound (matches_of x b) _ _ (open_sound s k.few) (mismatch_sound s k)))
    k

erase_sound : (s : Security) (x : Secrets) (b : List ℕ) → Sound s → Sound (erase_of s x b).security
unfolding erase_of
erase_sound s x b k =
    pick_sound (accepts_of s x b) _ _ record { few = k.few; sure = λ l. absurd (false≢true l) } record { few = k.few; sure = k.sure }

disable_sound : (s : Security) (x : Secrets) (b : List ℕ) → Sound s → Sound (disable_of s x b).security
unfolding disable_of
disable_sound s x b k = pick_sound (accepts_of s x b) _ _ record { few = k.few; sure = λ l. absurd (false≢true l) } k

-- a password block
pub judge_sound : (p : Purpose) (s : Security) (x : Secrets) (b : List ℕ) → Sound s → Sound (judge_of p s x b).security
unfolding judge_of
judge_sound Set s x b k = set_sound s x b k
judge_sound Unlock s x b k = unlock_sound s x b k
judge_sound Erase s x b k = erase_sound s x b k
judge_sound Disable s x b k = disable_sound s x b k
