-- Rules that are wrong on purpose, one for each of document 01's "Leaks and slips we have met": the device's own rules but for one slip.
use Prim.Native.Nat.{ℕ}
use mathlib.Core.Bool.{Bool, true, false}
use mathlib.Core.List.{List}
use lib.Dec.{eqb}
use lib.ListN.{take, get_or, set}
use Rattle.base.specs.Choice.{pick}
use Rattle.block.specs.Passwords.{password_of, same}
use Rattle.lock.specs.Lock.{is_locked, with_attempts}
use Rattle.lock.specs.declared.Security.{Security}
use Rattle.lock.specs.declared.Secrets.{Secrets}
use Rattle.lock.specs.declared.Purpose.{Purpose}
use Rattle.lock.specs.declared.Purpose.TheVariants.{Set, Unlock, Erase, Disable}
use Rattle.judging.specs.Passwords.{picked_of, matches_of}
use Rattle.judging.specs.Judging.{opened_of, master_at_maximum}
use Rattle.settled.specs.Settled.{with_security}
use Rattle.face.specs.Face.{idle_face, with_settled, with_buffer}
use Rattle.face.specs.declared.Face.{Face}
use Rattle.face.specs.declared.Answer.TheVariants.{Done}
use Rattle.face.specs.declared.Action.{Action}
use Rattle.face.specs.declared.Action.TheVariants.{ReadRegister, WriteRegister, ReadWord, WriteWord, HardwareReset, PowerOn, Line}
use Rattle.resets.specs.Control.{srst_of}
use Rattle.transfers.specs.Sectors.{finish_face}
use Rattle.password.specs.Passwords.{password_ended}
use Rattle.device.specs.Alone.{Step, device_of, shown}
use Rattle.device.specs.Host.{step_of}
use Rattle.device.specs.declared.Device.{Device}
use Rattle.laws.specs.Sessions.{Rules}
use Rattle.room.specs.Blocks.{completed_of, restarts}
use Rattle.room.specs.Claims.{security_in}

-- ---- a slip in one place

-- a step that leaves another face
abbrev leaving : Step → (Face → Face) → Step
leaving s change =
    record {
      outcome =
          record {
            number = s.outcome.number;
            value = s.outcome.value;
            device = device_of (change s.outcome.device.face) s.outcome.device.secrets;
          };
      sectors = s.sectors;
    }

-- the device's own rules, but for the face that is left where the test holds
abbrev slip : (Device → Action → Bool) → (Device → List ℕ → Face → Face) → Rules
slip test change d m a = pick (test d a) (leaving (step_of d m a) (change d m)) (step_of d m a)

-- a write of v to register n that passes the test
abbrev writes : (ℕ → ℕ → Bool) → Action → Bool
writes test (ReadRegister n) = false
writes test (WriteRegister n v) = test n v
writes test ReadWord = false
writes test (WriteWord w) = false
writes test HardwareReset = false
writes test PowerOn = false
writes test Line = false

-- a write to the Command register of a code that passes the test
abbrev commands : (ℕ → Bool) → Action → Bool
commands test a = writes (λ n v. pick (eqb n 7) (test v) false) a

-- a whole UNLOCK block that passes the test, while locked
abbrev unlocks_by : (Security → Secrets → List ℕ → Bool) → Security → Secrets → Purpose → List ℕ → Bool
unlocks_by test s x Set b = false
unlocks_by test s x Unlock b = pick (is_locked s.lock) (test s x b) false
unlocks_by test s x Erase b = false
unlocks_by test s x Disable b = false

-- UNLOCK opens where the test holds, too
abbrev opens_by : (Security → Secrets → List ℕ → Bool) → Rules
opens_by test =
    slip (λ d a. completed_of (unlocks_by test (security_in d) d.secrets) d.face a)
    (λ d m f. finish_face (password_ended d.face (opened_of (security_in d))))

-- ---- the seven, each wrong on purpose

-- "READ BUFFER while locked showing payment's last sector": a start keeps the buffer
unfoldable pub start_keeps_buffer : Rules
start_keeps_buffer = slip (λ d a. restarts a) (λ d m f. with_buffer f d.face.buffer)

-- "the same after UNLOCK showing the password": a judged block stays in the buffer, but for its last word
unfoldable pub judged_block_stays : Rules
judged_block_stays = slip (λ d a. completed_of (λ p b. true) d.face a) (λ d m f. with_buffer f d.face.buffer)

-- "a password cut off by a new Command left half in the buffer": the Command finds the transfer gone, with nothing to clear
unfoldable pub cut_block_stays : Rules
cut_block_stays d m a = step_of (pick (commands (λ v. true) a) (device_of (idle_face d.face) d.secrets) d) m a

-- "soft reset giving back attempts"
unfoldable pub soft_reset_gives_attempts : Rules
soft_reset_gives_attempts =
    slip (λ d a. writes (λ n v. pick (eqb n 8) (srst_of v) false) a)
    (λ d m f. with_settled f (with_security f.settled (with_attempts f.settled.security 5)))

-- "comparing 31 bytes"
unfoldable pub compares31_bytes : Rules
compares31_bytes =
    opens_by (λ s x b. pick (master_at_maximum s b) false (same (take 31 (password_of b)) (take 31 (picked_of x b))))

-- "UNLOCK taking the master at Maximum"
unfoldable pub takes_master_at_maximum : Rules
takes_master_at_maximum = opens_by (λ s x b. matches_of x b)

-- "an IDENTIFY word worked out from sectors": the low byte of word 0
unfoldable pub identifies_a_sector : Rules
identifies_a_sector =
    slip (λ d a. commands (λ v. eqb v 0xEC) a) (λ d m f. with_buffer f (set f.buffer 0 (get_or m 0 0)))

-- ---- and one that leaks nothing

-- "a device that aborts everything .. zero words (2, though 3 alone would pass)": this one does nothing at all, and says 0
unfoldable pub says_nothing : Rules
says_nothing d m a = shown d m Done 0
