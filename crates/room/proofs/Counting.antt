-- Attempts: nothing but an UNLOCK mismatch while locked takes one, and nothing but a start gives any, so attempts left and mismatches are five together.
use mathlib.Core.Path.{◌≡◌, refl, ap, ◌∙◌}
use mathlib.Core.Bool.{Bool, true, false, not}
use mathlib.Core.List.{List}
use Prim.Native.Nat.{ℕ, ◌+◌, ◌<◌}
use native.Mathlib.Omega.{arith}
use lib.Dec.{ltb}
use borrow.Author.Tests.{lt-ltb}
use Rattle.base.specs.Choice.{pick}
use Rattle.base.proofs.Tests.{false≢true, pick_both, pick_each, either_way}
use Rattle.lock.specs.Lock.{is_locked, is_frozen, exhausted_of}
use Rattle.lock.specs.declared.Security.{Security}
use Rattle.lock.specs.declared.Secrets.{Secrets}
use Rattle.lock.specs.declared.Purpose.{Purpose}
use Rattle.lock.specs.declared.Purpose.TheVariants.{Set, Unlock, Erase, Disable}
use Rattle.lock.proofs.Sound.{left_attempts}
use Rattle.judging.specs.Passwords.{master_picked, matches_of}
use Rattle.judging.specs.Judging.{mismatched_of, set_of, master_at_maximum, unlock_locked, unlock_of, accepts_of, erase_of, disable_of, judge_of}
use Rattle.judging.specs.declared.Judged.{Judged}
use Rattle.settled.specs.declared.Settled.{Settled}
use Rattle.face.specs.declared.PasswordBlock.{PasswordBlock}
use Rattle.face.specs.declared.Transfer.{Transfer}
use Rattle.face.specs.declared.Transfer.TheVariants.{Idle, Reading, Writing, ReadingBuffer, WritingBuffer, TakingPassword}
use Rattle.face.specs.declared.Face.{Face}
use Rattle.face.specs.declared.Action.{Action}
use Rattle.face.specs.declared.Action.TheVariants.{ReadRegister, WriteRegister, ReadWord, WriteWord, HardwareReset, PowerOn, Line}
use Rattle.transfers.specs.Words.{word_in}
use Rattle.reading.specs.Words.{read_word_of}
use Rattle.fastpath.specs.Dev.{ignored_of}
use Rattle.shape.specs.Shape.{password_fits, transfer_fits}
use Rattle.password.specs.Passwords.{password_ended, judgement_of, password_last, password_word}
use Rattle.disk.specs.Actions.{write_word_as, write_word_of, act_of}
use Rattle.device.specs.Alone.{Step, alone_of}
use Rattle.device.specs.Host.{Ready, step_of}
use Rattle.device.specs.declared.Device.{Device}
use Rattle.laws.proofs.Shape.{guard}
use Rattle.laws.proofs.Settling.{Closed, write_register_settles, read_word_settles, write_word_settles}
use Rattle.laws.proofs.Opens.{ended_hot}
use Rattle.laws.proofs.Steps.{ready_fits, ready_step}
use Rattle.room.specs.Blocks.{completed_as, completed_of, unlock_mismatch, mismatch_of, counted_of}
use Rattle.room.specs.Claims.{security_in}

-- so many attempts are left
abbrev pub Left : ℕ → Settled → Type 0
Left n s = s.security.attempts ≡ n

pub left_closed : (n : ℕ) → Closed (Left n)
left_closed n = record { translation = λ s t p. p; prepared = λ s p. p; unprepared = λ s p. p; frozen = λ s h p. p }

-- attempts left and mismatches counted are five together
pub record Five (s : Security) (n : ℕ) : Type 0 where
  pub is : s.attempts + n ≡ 5

five_left : {s t : Security} {n : ℕ} → t.attempts ≡ s.attempts → Five s n → Five t n
five_left {s} {t} {n} e p = record { is = ap (λ (k : ℕ). k + n) e ∙ p.is }

-- ---- a whole block

-- where a mismatch is counted an attempt is there to take
mismatched_five : (s : Security) (n : ℕ) → exhausted_of s ≡ false → Five s n → Five (mismatched_of s) (n + 1)
unfolding mismatched_of
mismatched_five s n e p =
    let some : 0 < s.attempts = left_attempts s e in
    rw (lt-ltb 0 s.attempts some) (record { is = let h : s.attempts + n ≡ 5 = p.is in omega arith })

-- an open UNLOCK block has attempts left
pub unlock_fits : (s : Security) → password_fits s Unlock ≡ true → exhausted_of s ≡ false
unfolding password_fits
unlock_fits s k = go (exhausted_of s) (guard (is_frozen s.lock) (not (exhausted_of s)) k).1
  where
    go : (none : Bool) → not none ≡ true → none ≡ false
    go true e = absurd (false≢true e)
    go false e = refl

judge_five : (s : Security) (x : Secrets) (p : Purpose) (b : List ℕ) (n : ℕ) → password_fits s p ≡ true → Five s n
    → Five (judge_of p s x b).security (pick (unlock_mismatch s x p b) (n + 1) n)
unfolding judge_of set_of unlock_of unlock_locked erase_of disable_of password_fits
judge_five s x Set b n k p = five_left (pick_both (λ (j : Judged). j.security.attempts ≡ s.attempts) (master_picked b) _ _ refl refl) p
judge_five s x Unlock b n k p =
    either_way (is_locked s.lock)
    (λ h. either_way (master_at_maximum s b)
    (λ q. simp (h, q) p)
    (λ q. either_way (matches_of x b) (λ e. simp (h, q, e) (record { is = p.is })) (λ e. simp (h, q, e) (mismatched_five s n (unlock_fits s k) p))))
    (λ h. simp h p)
judge_five s x Erase b n k p = five_left (pick_both (λ (j : Judged). j.security.attempts ≡ s.attempts) (accepts_of s x b) _ _ refl refl) p
judge_five s x Disable b n k p = five_left (pick_both (λ (j : Judged). j.security.attempts ≡ s.attempts) (accepts_of s x b) _ _ refl refl) p

last_five : (f : Face) (x : Secrets) (p : Purpose) (n : ℕ) → password_fits f.settled.security p ≡ true → Five f.settled.security n
    → Five (password_last f x p).face.settled.security (pick (unlock_mismatch f.settled.security x p f.buffer) (n + 1) n)
unfolding password_last
last_five f x p n k q =
    rw (ended_hot (password_ended f (judgement_of f x p).security) (judgement_of f x p).verdict) (judge_five f.settled.security x p f.buffer n k q)

password_five : (f : Face) (x : Secrets) (b : PasswordBlock) (w n : ℕ) → password_fits f.settled.security b.purpose ≡ true → Five f.settled.security n
    → Five (password_word f x b w).face.settled.security (pick (completed_as (unlock_mismatch f.settled.security x) f w (TakingPassword b)) (n + 1) n)
unfolding password_word
password_five f x b w n k q =
    either_way (ltb b.word 255)
    (λ e. simp e (record { is = q.is }))
    (λ e. simp e (last_five (word_in f b.word w) x b.purpose n k (record { is = q.is })))

-- ---- any action

word_five : (f : Face) (x : Secrets) (m : List ℕ) (w : ℕ) (t : Transfer) (n : ℕ) → transfer_fits f.settled t ≡ true → Five f.settled.security n
    → Five (write_word_as f x m w t).acted.face.settled.security (pick (completed_as (unlock_mismatch f.settled.security x) f w t) (n + 1) n)
word_five f x m w Idle n k q = q
word_five f x m w (Reading r) n k q = q
word_five f x m w (Writing r) n k q =
    five_left (write_word_settles (left_closed f.settled.security.attempts) f x m w (Writing r) (λ b e. cc) refl) q
word_five f x m w (ReadingBuffer i) n k q = q
word_five f x m w (WritingBuffer i) n k q =
    five_left (write_word_settles (left_closed f.settled.security.attempts) f x m w (WritingBuffer i) (λ b e. cc) refl) q
word_five f x m w (TakingPassword b) n k q = password_five f x b w n k q

act_five : (d : Device) (m : List ℕ) (a : Action) (n : ℕ) → transfer_fits d.face.settled d.face.hot.transfer ≡ true → Five (security_in d) n
    → Five (act_of d.face d.secrets m a).acted.face.settled.security (counted_of n d a)
unfolding act_of read_word_of write_word_of counted_of mismatch_of completed_of
act_five d m (ReadRegister i) n k q = q
act_five d m (WriteRegister i v) n k q = five_left (write_register_settles (left_closed (security_in d).attempts) d.face m i v refl) q
act_five d m ReadWord n k q = five_left (read_word_settles (left_closed (security_in d).attempts) d.face m d.face.hot.transfer refl) q
act_five d m (WriteWord w) n k q = word_five d.face d.secrets m w d.face.hot.transfer n k q
act_five d m HardwareReset n k q = record { is = refl }
act_five d m PowerOn n k q = record { is = refl }
act_five d m Line n k q = q

-- what DEV leaves to the other device counts nothing
ignored_counts : (d : Device) (a : Action) (n : ℕ) → ignored_of d.face.hot a ≡ true → counted_of n d a ≡ n
unfolding ignored_of counted_of mismatch_of completed_of
ignored_counts d (ReadRegister i) n e = refl
ignored_counts d (WriteRegister i v) n e = refl
ignored_counts d ReadWord n e = absurd (false≢true e)
ignored_counts d (WriteWord w) n e = absurd (false≢true e)
ignored_counts d HardwareReset n e = absurd (false≢true e)
ignored_counts d PowerOn n e = absurd (false≢true e)
ignored_counts d Line n e = absurd (false≢true e)

alone_five : (d : Device) (m : List ℕ) (a : Action) (n : ℕ) → transfer_fits d.face.settled d.face.hot.transfer ≡ true → Five (security_in d) n
    → Five (security_in (alone_of d m a).outcome.device) (counted_of n d a)
unfolding alone_of
alone_five d m a n k q =
    pick_each (λ (s : Step). Five (security_in s.outcome.device) (counted_of n d a)) (ignored_of d.face.hot a) _ _
    (λ e. rw (ignored_counts d a n e) q) (λ e. act_five d m a n k q)

-- attempts left and mismatches stay five together
pub step_five : (d : Device) (m : List ℕ) (a : Action) (n : ℕ) → Ready d m → Five (security_in d) n → Five (security_in (step_of d m a).outcome.device) (counted_of n d a)
step_five d m a n k q =
    rw (ready_step d m a k) (alone_five d m a n (ready_fits d m k).fits q)
