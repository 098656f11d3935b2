-- Whole password blocks: which are accepted, and which are UNLOCK mismatches (document 01, "The lock").
use Rattle.std.specs.Prelude.{ℕ, ◌+◌, Bool, true, false, not, List, [], ◌∷◌, ltb}
use Rattle.base.specs.Choice.{pick}
use Rattle.block.specs.Words.{word_put}
use Rattle.lock.specs.Lock.{is_locked}
use Rattle.lock.specs.declared.Security.{Security}
use Rattle.lock.specs.declared.Secrets.{Secrets}
use Rattle.lock.specs.declared.Purpose.{Purpose}
use Rattle.lock.specs.declared.Purpose.TheVariants.{Set, Unlock, Erase, Disable}
use Rattle.judging.specs.Passwords.{matches_of}
use Rattle.judging.specs.Judging.{master_at_maximum, accepts_of}
use Rattle.face.specs.declared.Transfer.{Transfer}
use Rattle.face.specs.declared.Transfer.TheVariants.{Idle, Reading, Writing, ReadingBuffer, WritingBuffer, TakingPassword}
use Rattle.face.specs.declared.Face.{Face}
use Rattle.face.specs.declared.Action.{Action}
use Rattle.face.specs.declared.Action.TheVariants.{ReadRegister, WriteRegister, ReadWord, WriteWord, HardwareReset, PowerOn, Line}
use Rattle.device.specs.declared.Device.{Device}
use Rattle.laws.specs.Sessions.{Rules}

-- a test of a password block once its 256th word w is in it, by the transfer that is open
abbrev pub completed_as : (Purpose → List ℕ → Bool) → Face → ℕ → Transfer → Bool
completed_as test f w Idle = false
completed_as test f w (Reading r) = false
completed_as test f w (Writing r) = false
completed_as test f w (ReadingBuffer n) = false
completed_as test f w (WritingBuffer n) = false
completed_as test f w (TakingPassword b) =
    pick (ltb b.word 255) false (test b.purpose (word_put f.buffer b.word w))

-- the action is the 256th word of a password block that passes the test
unfoldable pub completed_of : (Purpose → List ℕ → Bool) → Face → Action → Bool
completed_of test f (ReadRegister n) = false
completed_of test f (WriteRegister n v) = false
completed_of test f ReadWord = false
completed_of test f (WriteWord w) = completed_as test f w f.hot.transfer
completed_of test f HardwareReset = false
completed_of test f PowerOn = false
completed_of test f Line = false

-- F2h "Locked: master at Maximum aborts uncompared .. A match opens"
unfoldable pub unlock_accepts : Security → Secrets → List ℕ → Bool
unlock_accepts s x b = pick (is_locked s.lock) (pick (master_at_maximum s b) false (matches_of x b)) false

-- F4h while locked "compares the picked password at either level (uncompared if security is not enabled)"
unfoldable pub erase_accepts : Security → Secrets → List ℕ → Bool
erase_accepts s x b = pick (is_locked s.lock) (accepts_of s x b) false

-- "A block is accepted exactly where F2h while locked opens, or F4h while locked erases"
abbrev pub block_accepted : Security → Secrets → Purpose → List ℕ → Bool
block_accepted s x Set b = false
block_accepted s x Unlock b = unlock_accepts s x b
block_accepted s x Erase b = erase_accepts s x b
block_accepted s x Disable b = false

-- the action sends the device a password block that it accepts
unfoldable pub accepted_of : Device → Action → Bool
accepted_of d a = completed_of (block_accepted d.face.settled.security d.secrets) d.face a

-- demand 3: actions "none of which sends .. a password block that it accepts"
unfoldable pub never_accepted : Rules → Device → List ℕ → List Action → Bool
never_accepted r d m [] = true
never_accepted r d m (a ∷ l) =
    pick (accepted_of d a) false (never_accepted r (r d m a).outcome.device (r d m a).sectors l)

-- F2h "Locked: master at Maximum aborts uncompared and uncounted .. a mismatch aborts and takes one attempt"
abbrev pub unlock_mismatch : Security → Secrets → Purpose → List ℕ → Bool
unlock_mismatch s x Set b = false
unlock_mismatch s x Unlock b = pick (is_locked s.lock) (pick (master_at_maximum s b) false (not (matches_of x b))) false
unlock_mismatch s x Erase b = false
unlock_mismatch s x Disable b = false

-- the action is an UNLOCK mismatch while locked
unfoldable pub mismatch_of : Device → Action → Bool
mismatch_of d a = completed_of (unlock_mismatch d.face.settled.security d.secrets) d.face a

-- "power-on or hardware reset"
abbrev pub restarts : Action → Bool
restarts (ReadRegister n) = false
restarts (WriteRegister n v) = false
restarts ReadWord = false
restarts (WriteWord w) = false
restarts HardwareReset = true
restarts PowerOn = true
restarts Line = false

-- n mismatches, and then an action
unfoldable pub counted_of : ℕ → Device → Action → ℕ
counted_of n d a = pick (restarts a) 0 (pick (mismatch_of d a) (n + 1) n)

-- n mismatches, and then a session: "UNLOCK mismatches while locked since power-on or hardware reset"
unfoldable pub mismatches_from : Rules → ℕ → Device → List ℕ → List Action → ℕ
mismatches_from r n d m [] = n
mismatches_from r n d m (a ∷ l) =
    mismatches_from r (counted_of n d a) (r d m a).outcome.device (r d m a).sectors l

-- "until the next of these": no power-on and no hardware reset is among the actions
unfoldable pub never_restarts : List Action → Bool
never_restarts [] = true
never_restarts (a ∷ l) = pick (restarts a) false (never_restarts l)
