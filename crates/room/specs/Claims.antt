-- What is claimed of the device: demand 3, five mismatches, what power-on and a password block leave. Each is said of any rules, so that it can be proved of the device's and refuted of wrong ones.
use Rattle.std.specs.Prelude.{ℕ, ◌+◌, ◌≤◌, ◌<◌, ◌≡◌, Bool, true, false, not, List, ◌∷◌, map, eqb, length}
use Rattle.base.specs.Choice.{pick}
use Rattle.block.specs.Sectors.{zero_block}
use Rattle.block.specs.Passwords.{password_of}
use Rattle.lock.specs.Lock.{is_locked}
use Rattle.lock.specs.declared.Security.{Security}
use Rattle.judging.specs.Passwords.{picked_of}
use Rattle.judging.specs.Judging.{master_at_maximum}
use Rattle.lock.specs.declared.Lock.TheVariants.{Open}
use Rattle.face.specs.Face.{with_buffer}
use Rattle.face.specs.Reads.{is_idle, status_of}
use Rattle.face.specs.declared.PasswordBlock.{PasswordBlock}
use Rattle.face.specs.declared.Transfer.TheVariants.{TakingPassword}
use Rattle.face.specs.declared.Hot.{Hot}
use Rattle.face.specs.declared.Action.{Action}
use Rattle.face.specs.declared.Action.TheVariants.{ReadRegister, WriteRegister, ReadWord, WriteWord, HardwareReset, PowerOn, Line}
use Rattle.fastpath.specs.Dev.{dev_set}
use Rattle.resets.specs.Control.{srst_of}
use Rattle.device.specs.Alone.{device_of, Step}
use Rattle.device.specs.Host.{Ready}
use Rattle.device.specs.declared.Device.{Device}
use Rattle.laws.proofs.ReadBack.{put_all}
use Rattle.laws.proofs.Lengths.{Whole}
use Rattle.laws.specs.Sessions.{Rules, session_of}
use Rattle.room.specs.Blocks.{accepted_of, never_accepted, mismatches_from, never_restarts}
use Rattle.room.specs.Started.{started_face, started_step}
use Rattle.room.specs.Guest.{guest_answers, guest_face}

-- the security settings of a device
abbrev pub security_in : Device → Security
security_in d = d.face.settled.security

-- ---- demand 3

-- "just powered-on": what a power-on leaves of some device in shape
pub record JustPoweredOn (r : Rules) (d : Device) : Type 0 where
  pub before : Device
  pub memory : List ℕ
  pub ready : Ready before memory
  pub left : (r before memory PowerOn).outcome.device ≡ d

-- one of demand 3's devices: in shape over memory of the right length, just powered on, with security enabled
pub record Guarded (r : Rules) (d : Device) (m : List ℕ) : Type 0 where
  pub ready : Ready d m
  pub started : JustPoweredOn r d
  pub enabled : (security_in d).enabled ≡ true

-- "equal geometry, identity, level, differing in sectors and both passwords"
pub record AlikeOutside (d e : Device) : Type 0 where
  pub geometry : d.face.settled.geometry ≡ e.face.settled.geometry
  pub identity : d.face.settled.identity ≡ e.face.settled.identity
  pub level : (security_in d).maximum ≡ (security_in e).maximum

-- "no sector or stored password changes"
pub record Untouched (r : Rules) (d : Device) (m : List ℕ) (l : List Action) : Type 0 where
  pub sectors : (session_of r d m l).sectors ≡ m
  pub passwords : (session_of r d m l).device.secrets ≡ d.secrets

-- "all answers are equal, no sector or stored password changes"
pub record SecretKept (r : Rules) (d e : Device) (m n : List ℕ) (l : List Action) : Type 0 where
  pub answers : (session_of r d m l).answers ≡ (session_of r e n l).answers
  pub first : Untouched r d m l
  pub second : Untouched r e n l

-- demand 3: "Two just powered-on devices .. get the same actions, none of which sends either a password block that it accepts"
abbrev pub KeepsTheSecret : Rules → Type 0
KeepsTheSecret r =
    (d e : Device) (m n : List ℕ) (l : List Action) → Guarded r d m → Guarded r e n → AlikeOutside d e
    → never_accepted r d m l ≡ true → never_accepted r e n l ≡ true → SecretKept r d e m n l

-- a block is accepted exactly where a locked device opens: the premise leaves out no more than demand 3 says
abbrev pub AcceptedOpens : Rules → Type 0
AcceptedOpens r =
    (d : Device) (m : List ℕ) (a : Action) → Ready d m → is_locked (security_in d).lock ≡ true
    → accepted_of d a ≡ not (is_locked (security_in (r d m a).outcome.device).lock)

-- stronger than demand 3 asks, and of any locked device in shape: answers and face are a function of face and actions alone
abbrev pub AnswersByFace : Rules → Type 0
AnswersByFace r =
    (d : Device) (m : List ℕ) (l : List Action) → Ready d m → is_locked (security_in d).lock ≡ true
    → never_accepted r d m l ≡ true
    → session_of r d m l
    ≡ record { answers = guest_answers d.face l; device = device_of (guest_face d.face l) d.secrets; sectors = m }

-- and after a power-on, a function of geometry, identity, level and actions alone
abbrev pub AnswersByOutside : Rules → Type 0
AnswersByOutside r =
    (d : Device) (m : List ℕ) (l : List Action) → Guarded r d m → never_accepted r d m l ≡ true
    → (session_of r d m l).answers
    ≡ guest_answers (started_face d.face.settled.geometry d.face.settled.identity (security_in d).maximum true) l

-- ---- five mismatches

-- the attempts left and the mismatches since power-on or hardware reset are five together, after any actions
abbrev pub AttemptsCounted : Rules → Type 0
AttemptsCounted r =
    (d : Device) (m : List ℕ) (l : List Action) → Ready d m → JustPoweredOn r d
    → (security_in (session_of r d m l).device).attempts + mismatches_from r 0 d m l ≡ 5

-- "Abort: Error 04h, Status 51h", and no block is taken
pub record Aborted (h : Hot) : Type 0 where
  pub error : h.regs.error ≡ 0x04
  pub status : status_of h ≡ 0x51
  pub closed : is_idle h.transfer ≡ true

-- F2h is aborted, unless no command is heard: "While it is held, writes to 1 to 7 do nothing", "With DEV .. set .. commands other than 90h do nothing"
abbrev pub UnlockAborts : Rules → Device → List ℕ → Type 0
UnlockAborts r d m =
    d.face.hot.signals.held ≡ false → dev_set d.face.hot ≡ false
    → Aborted (r d m (WriteRegister 7 0xF2)).outcome.device.face.hot

-- still locked after these actions, nothing of sectors and passwords changed, and F2h aborts there
pub record ShutOut (r : Rules) (d : Device) (m : List ℕ) (l : List Action) : Type 0 where
  pub locked : is_locked (security_in (session_of r d m l).device).lock ≡ true
  pub untouched : Untouched r d m l
  pub aborts : UnlockAborts r (session_of r d m l).device (session_of r d m l).sectors

-- "After five UNLOCK mismatches while locked since power-on or hardware reset, even the right password is aborted until the next of these"
abbrev pub ShutAfterFive : Rules → Type 0
ShutAfterFive r =
    (d : Device) (m : List ℕ) (l k : List Action) → Ready d m → JustPoweredOn r d
    → mismatches_from r 0 d m l ≡ 5 → never_restarts k ≡ true
    → ShutOut r (session_of r d m l).device (session_of r d m l).sectors k

-- a software reset and its end, F2h, and the block's words
abbrev pub unlock_with : List ℕ → List Action
unlock_with ws = WriteRegister 8 4 ∷ WriteRegister 8 0 ∷ WriteRegister 7 0xF2 ∷ map WriteWord ws

-- 256 words with a password that UNLOCK takes: the picked one, and not "master at Maximum"
pub record RightWords (d : Device) (ws : List ℕ) : Type 0 where
  pub whole : length ws ≡ 256
  pub right : password_of (put_all zero_block 0 ws) ≡ picked_of d.secrets (put_all zero_block 0 ws)
  pub level : master_at_maximum (security_in d) (put_all zero_block 0 ws) ≡ false

-- before five, a right one opens, whatever the guest was in the middle of
abbrev pub OpensBeforeFive : Rules → Type 0
OpensBeforeFive r =
    (d : Device) (m : List ℕ) (l : List Action) (ws : List ℕ) → Ready d m → JustPoweredOn r d
    → mismatches_from r 0 d m l < 5 → is_locked (security_in (session_of r d m l).device).lock ≡ true
    → RightWords (session_of r d m l).device ws
    → (security_in (session_of r (session_of r d m l).device (session_of r d m l).sectors (unlock_with ws)).device).lock ≡ Open

-- after five, the same actions leave it locked: "even the right password is aborted"
abbrev pub RightOneShutOut : Rules → Type 0
RightOneShutOut r =
    (d : Device) (m : List ℕ) (l : List Action) (ws : List ℕ) → Ready d m → JustPoweredOn r d
    → mismatches_from r 0 d m l ≡ 5
    → is_locked (security_in (session_of r (session_of r d m l).device (session_of r d m l).sectors (unlock_with ws)).device).lock
    ≡ true

-- ---- what is left

-- by these alone
abbrev pub started_of : Device → List ℕ → Step
started_of d m =
    started_step d.face.settled.geometry d.face.settled.identity (security_in d).maximum (security_in d).enabled
    d.secrets m

-- what power-on and hardware reset leave is a function of geometry, identity, level, enabled mark, passwords and sectors
pub record StartedAlike (r : Rules) (d : Device) (m : List ℕ) : Type 0 where
  pub by_power_on : r d m PowerOn ≡ started_of d m
  pub by_hardware_reset : r d m HardwareReset ≡ started_of d m

-- whatever state the device was in
abbrev pub LeavesNothingElse : Rules → Type 0
LeavesNothingElse r = (d : Device) (m : List ℕ) → Ready d m → StartedAlike r d m

-- so whatever actions came before
abbrev pub WhateverCameBefore : Rules → Type 0
WhateverCameBefore r =
    (d : Device) (m : List ℕ) (l : List Action) → Whole d m
    → StartedAlike r (session_of r d m l).device (session_of r d m l).sectors

-- the same device with other bytes in its buffer
abbrev pub holding : Device → List ℕ → Device
holding d b = device_of (with_buffer d.face b) d.secrets

-- an action that drops a password block: a Command, SRST, hardware reset, power-on
abbrev pub drops_block : Action → Bool
drops_block (ReadRegister n) = false
drops_block (WriteRegister n v) = pick (eqb n 7) true (pick (eqb n 8) (srst_of v) false)
drops_block ReadWord = false
drops_block (WriteWord w) = false
drops_block HardwareReset = true
drops_block PowerOn = true
drops_block Line = false

-- "The buffer is zeroed however such a transfer ends": judged, it leaves zeros; dropped, whatever words had come make no difference
pub record BlockForgotten (r : Rules) (d : Device) (m : List ℕ) (b : PasswordBlock) : Type 0 where
  pub judged : (w : ℕ) → 255 ≤ b.word → (r d m (WriteWord w)).outcome.device.face.buffer ≡ zero_block
  pub dropped : (a : Action) (c : List ℕ) → drops_block a ≡ true → r d m a ≡ r (holding d c) m a

-- no password block leaves a word of itself
abbrev pub ForgetsBlocks : Rules → Type 0
ForgetsBlocks r =
    (d : Device) (m : List ℕ) (b : PasswordBlock) → Ready d m → d.face.hot.transfer ≡ TakingPassword b
    → BlockForgotten r d m b
