-- The wrong rules that leave a password block in the buffer, or give attempts back, on runs that are computed, and what a block left tells of the claims on blocks.
use Prim.Native.Nat.{ℕ}
use mathlib.Core.Path.{◌≡◌, refl, ap}
use mathlib.Core.Bool.{false}
use mathlib.Core.List.{List, [], ◌∷◌, ◌++◌}
use native.Mathlib.Omega.{arith}
use lib.ListN.{drop, replicate}
use Rattle.base.proofs.Tests.{false≢true}
use Rattle.block.specs.Words.{word_at}
use Rattle.block.specs.Sectors.{zero_block}
use Rattle.lock.specs.Lock.{with_attempts}
use Rattle.settled.specs.Settled.{with_security}
use Rattle.face.specs.Face.{with_settled}
use Rattle.face.specs.declared.Answer.TheVariants.{Done}
use Rattle.face.specs.declared.Action.{Action}
use Rattle.face.specs.declared.Action.TheVariants.{WriteRegister, ReadWord}
use Rattle.transfers.specs.Sectors.{abort_face}
use Rattle.device.specs.Alone.{Step, device_of}
use Rattle.device.specs.declared.Device.{Device}
use Rattle.laws.specs.Sessions.{Session, given, session_of}
use Rattle.room.specs.Blocks.{mismatches_from}
use Rattle.room.specs.Claims.{security_in, Guarded, ShutOut, ForgetsBlocks}
use Rattle.room.proofs.Running.{running_on_bytes}
use Rattle.laws.specs.Sessions.{values_of}
use Rattle.runs.proofs.OneSector.{disk, passwords, filled, block_of, but_the_last, unlocking, guarded}
use Rattle.room.proofs.WrongRules.{judged_block_stays, cut_block_stays, soft_reset_gives_attempts}

-- ---- a judged block

-- the right password, READ BUFFER, and 17 words: what picked the password, and the password
pub judged_block_stays_run : values_of (drop 258 (session_of judged_block_stays disk (filled 0) (unlocking (block_of 0 0x0101 0x0101) ++ (WriteRegister 7 0xE4 ∷ replicate 17 ReadWord))).answers)
    ≡ 0 ∷ replicate 16 0x0101
unfolding running_on_bytes judged_block_stays
judged_block_stays_run = refl

-- one word of that block is still to come
abbrev last_word_due : Device
last_word_due = (session_of judged_block_stays disk (filled 0) (unlocking (but_the_last 0x0101))).device

pub judged_block_stays_leaks : ForgetsBlocks judged_block_stays → ⊥
unfolding running_on_bytes judged_block_stays
judged_block_stays_leaks k =
    let zeroed = (k last_word_due (filled 0) _ record { shaped = refl; long = refl } refl).judged 0 (omega arith) in
    let e : ◌≡◌ {A = ℕ} 0x0101 0 = ap (λ (b : List ℕ). word_at b 1) zeroed in
    omega arith

-- ---- a block that a Command cuts off

-- two words of a block, READ BUFFER, and two words: those sent
pub cut_block_stays_run : values_of (session_of cut_block_stays disk (filled 0) (unlocking (0x1234 ∷ 0x5678 ∷ []) ++ (WriteRegister 7 0xE4 ∷ ReadWord ∷ ReadWord ∷ []))).answers
    ≡ 0 ∷ 0 ∷ 0 ∷ 0 ∷ 0x1234 ∷ 0x5678 ∷ []
unfolding running_on_bytes cut_block_stays
cut_block_stays_run = refl

-- the two words have come
abbrev two_words_in : Device
two_words_in = (session_of cut_block_stays disk (filled 0) (unlocking (0x1234 ∷ 0x5678 ∷ []))).device

pub cut_block_stays_leaks : ForgetsBlocks cut_block_stays → ⊥
unfolding running_on_bytes cut_block_stays
cut_block_stays_leaks k =
    let alike = (k two_words_in (filled 0) _ record { shaped = refl; long = refl } refl).dropped (WriteRegister 7 0xE4) zero_block refl in
    let e : ◌≡◌ {A = ℕ} 0x1234 0 = ap (λ (s : Step). word_at s.outcome.device.face.buffer 0) alike in
    omega arith

-- ---- five mismatches and a software reset

-- a wrong password
abbrev wrong_once : List Action
wrong_once = unlocking (block_of 0 0x0202 0x0202)

-- five times
abbrev pub five_wrong : List Action
five_wrong = wrong_once ++ (wrong_once ++ (wrong_once ++ (wrong_once ++ wrong_once)))

-- the disk after them: the last one aborted, no attempt is left
abbrev shut : Device
shut = device_of (abort_face (with_settled disk.face (with_security disk.face.settled (with_attempts (security_in disk) 0)))) disk.secrets

pub five_wrong_law : ◌≡◌ {A = Session} (session_of soft_reset_gives_attempts disk (filled 0) five_wrong) record { answers = replicate 1285 (given Done 0); device = shut; sectors = filled 0 }
unfolding running_on_bytes soft_reset_gives_attempts
five_wrong_law = refl

pub five_counted : mismatches_from soft_reset_gives_attempts 0 disk (filled 0) five_wrong ≡ 5
unfolding running_on_bytes soft_reset_gives_attempts
five_counted = refl

-- SRST is set and cleared
abbrev pub soft_reset : List Action
soft_reset = WriteRegister 8 4 ∷ WriteRegister 8 0 ∷ []

-- then F2h takes a block again
pub taken_again : ShutOut soft_reset_gives_attempts shut (filled 0) soft_reset → ⊥
unfolding running_on_bytes soft_reset_gives_attempts
taken_again s = false≢true (s.aborts refl refl).closed

pub switched_on : Guarded soft_reset_gives_attempts disk (filled 0)
unfolding running_on_bytes soft_reset_gives_attempts
switched_on = guarded soft_reset_gives_attempts false (passwords 1 7) (filled 0) refl refl
