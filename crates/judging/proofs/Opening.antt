-- What each password block is worth, said of the passwords themselves: the right one opens, erases or disables, a wrong one does not.
use mathlib.Core.Bool.{Bool, true, false}
use mathlib.Core.Path.{◌≡◌, refl}
use mathlib.Core.List.{List}
use Prim.Native.Nat.{ℕ, ◌-◌, ◌<◌}
use borrow.Author.Tests.{lt-ltb}
use Rattle.base.proofs.Tests.{either_way}
use Rattle.block.specs.Passwords.{password_of}
use Rattle.block.proofs.Comparing.{same_refl, same_true}
use Rattle.lock.specs.Lock.{is_locked, unprepared_of, with_attempts}
use Rattle.judging.specs.Judging.{opened_of, mismatched_of, enabled_at, disabled_of, judged, set_of, master_at_maximum, unlock_locked, unlock_of, accepts_of, erase_of, disable_of, judge_of}
use Rattle.lock.specs.Passwords.{zero_password}
use Rattle.judging.specs.Passwords.{with_user, with_master, master_picked, maximum_asked, picked_of, matches_of}
use Rattle.lock.specs.declared.Security.{Security}
use Rattle.lock.specs.declared.Secrets.{Secrets}
use Rattle.lock.specs.declared.Purpose.TheVariants.{Set, Unlock, Erase, Disable}
use Rattle.judging.specs.declared.Verdict.TheVariants.{EndsWell, Aborts, Erases}

-- the block carries the user password
pub record SendsUser (x : Secrets) (b : List ℕ) : Type 0 where
  pub picks : master_picked b ≡ false
  pub right : password_of b ≡ x.user

-- the block carries the master password
pub record SendsMaster (x : Secrets) (b : List ℕ) : Type 0 where
  pub picks : master_picked b ≡ true
  pub right : password_of b ≡ x.master

-- a match is equality with the picked password
pub matches_right : (x : Secrets) (b : List ℕ) → password_of b ≡ picked_of x b → matches_of x b ≡ true
unfolding matches_of
matches_right x b e = rw e (same_refl (picked_of x b))

pub matches_only : (x : Secrets) (b : List ℕ) → matches_of x b ≡ true → password_of b ≡ picked_of x b
unfolding matches_of
matches_only x b e = same_true (password_of b) (picked_of x b) e

pub matches_user : {x : Secrets} {b : List ℕ} → SendsUser x b → matches_of x b ≡ true
unfolding picked_of
matches_user {x} {b} s = matches_right x b (rw s.picks s.right)

pub matches_master : {x : Secrets} {b : List ℕ} → SendsMaster x b → matches_of x b ≡ true
unfolding picked_of
matches_master {x} {b} s = matches_right x b (rw s.picks s.right)

-- UNLOCK: the user password opens at both levels
pub user_opens : (s : Security) (x : Secrets) (b : List ℕ) → is_locked s.lock ≡ true → SendsUser x b → judge_of Unlock s x b ≡ judged (opened_of s) x EndsWell
unfolding judge_of unlock_of unlock_locked master_at_maximum
user_opens s x b l u = simp (l, u.picks, matches_user u)

-- UNLOCK: the master password opens at level High
pub master_opens : (s : Security) (x : Secrets) (b : List ℕ) → is_locked s.lock ≡ true → s.maximum ≡ false → SendsMaster x b
    → judge_of Unlock s x b ≡ judged (opened_of s) x EndsWell
unfolding judge_of unlock_of unlock_locked master_at_maximum
master_opens s x b l h u = simp (l, u.picks, h, matches_master u)

-- UNLOCK: at level Maximum a block that picks the master password aborts, whatever it carries, and costs nothing
pub master_refused : (s : Security) (x : Secrets) (b : List ℕ) → is_locked s.lock ≡ true → s.maximum ≡ true → master_picked b ≡ true
    → judge_of Unlock s x b ≡ judged s x Aborts
unfolding judge_of unlock_of unlock_locked master_at_maximum
master_refused s x b l h p = simp (l, p, h)

-- UNLOCK: any other password aborts and takes one attempt
pub wrong_costs : (s : Security) (x : Secrets) (b : List ℕ) → is_locked s.lock ≡ true → master_at_maximum s b ≡ false → (password_of b ≡ picked_of x b → ⊥)
    → 0 < s.attempts → judge_of Unlock s x b ≡ judged (with_attempts s (s.attempts - 1)) x Aborts
unfolding judge_of unlock_of unlock_locked mismatched_of
wrong_costs s x b l p w a =
    either_way (matches_of x b)
    (λ e. absurd (w (matches_only x b e)))
    (λ e. simp (l, p, e, lt-ltb 0 s.attempts a))

-- UNLOCK: not locked, any block ends well and changes nothing
pub unlock_idle : (s : Security) (x : Secrets) (b : List ℕ) → is_locked s.lock ≡ false → judge_of Unlock s x b ≡ judged s x EndsWell
unfolding judge_of unlock_of
unlock_idle s x b l = simp l

-- ERASE UNIT: a right password at either level, or any block where security is off, erases
pub erases : (s : Security) (x : Secrets) (b : List ℕ) → accepts_of s x b ≡ true
    → judge_of Erase s x b ≡ judged (disabled_of (unprepared_of s)) (with_user x zero_password) Erases
unfolding judge_of erase_of
erases s x b e = simp e

pub accepts_right : (s : Security) (x : Secrets) (b : List ℕ) → password_of b ≡ picked_of x b → accepts_of s x b ≡ true
unfolding accepts_of
accepts_right s x b e = go s.enabled refl
  where
    go : (on : Bool) → s.enabled ≡ on → accepts_of s x b ≡ true
    go true h = simp (h, matches_right x b e)
    go false h = simp h

pub accepts_off : (s : Security) (x : Secrets) (b : List ℕ) → s.enabled ≡ false → accepts_of s x b ≡ true
unfolding accepts_of
accepts_off s x b h = simp h

-- ERASE UNIT and DISABLE PASSWORD: a wrong password where security is on is not accepted
pub accepts_wrong : (s : Security) (x : Secrets) (b : List ℕ) → s.enabled ≡ true → (password_of b ≡ picked_of x b → ⊥) → accepts_of s x b ≡ false
unfolding accepts_of
accepts_wrong s x b h w = either_way (matches_of x b) (λ e. absurd (w (matches_only x b e))) (λ e. simp (h, e))

-- then ERASE UNIT aborts, its preparation ended, and takes no attempt
pub erase_refused : (s : Security) (x : Secrets) (b : List ℕ) → accepts_of s x b ≡ false → judge_of Erase s x b ≡ judged (unprepared_of s) x Aborts
unfolding judge_of erase_of
erase_refused s x b e = simp e

-- and DISABLE PASSWORD aborts and changes nothing
pub disable_refused : (s : Security) (x : Secrets) (b : List ℕ) → accepts_of s x b ≡ false → judge_of Disable s x b ≡ judged s x Aborts
unfolding judge_of disable_of
disable_refused s x b e = simp e

-- DISABLE PASSWORD accepted: security off, level High, user password zero, open
pub disables : (s : Security) (x : Secrets) (b : List ℕ) → accepts_of s x b ≡ true
    → judge_of Disable s x b ≡ judged (disabled_of s) (with_user x zero_password) EndsWell
unfolding judge_of disable_of
disables s x b e = simp e

-- SET PASSWORD: the user's, with its level, or the master's
pub sets_user : (s : Security) (x : Secrets) (b : List ℕ) → master_picked b ≡ false
    → judge_of Set s x b ≡ judged (enabled_at s (maximum_asked b)) (with_user x (password_of b)) EndsWell
unfolding judge_of set_of
sets_user s x b p = simp p

pub sets_master : (s : Security) (x : Secrets) (b : List ℕ) → master_picked b ≡ true → judge_of Set s x b ≡ judged s (with_master x (password_of b)) EndsWell
unfolding judge_of set_of
sets_master s x b p = simp p
