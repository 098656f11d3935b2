-- The bytes of a device, in the order in which they are kept (docs/EMBEDDING.md has the table).
use Rattle.std.specs.Prelude.{ℕ, ◌/◌, ◌%◌, Bool, true, false, List, [], ◌∷◌, ◌++◌}
use Rattle.lock.specs.declared.Lock.{Lock}
use Rattle.lock.specs.declared.Lock.TheVariants.{Open, Locked, Frozen}
use Rattle.lock.specs.declared.Purpose.{Purpose}
use Rattle.lock.specs.declared.Purpose.TheVariants.{Set, Unlock, Erase, Disable}
use Rattle.lock.specs.declared.Secrets.{Secrets}
use Rattle.settled.specs.declared.Identity.{Identity}
use Rattle.settled.specs.declared.Settled.{Settled}
use Rattle.face.specs.declared.Run.{Run}
use Rattle.face.specs.declared.Transfer.{Transfer}
use Rattle.face.specs.declared.Transfer.TheVariants.{Idle, Reading, Writing, ReadingBuffer, WritingBuffer, TakingPassword}
use Rattle.face.specs.declared.Hot.{Hot}
use Rattle.device.specs.declared.Device.{Device}

-- a mark: 1 where it is set
abbrev pub mark_byte : Bool → ℕ
mark_byte true = 1
mark_byte false = 0

-- a transfer's kind and its current sector
abbrev pub run_bytes : ℕ → Run → List ℕ
run_bytes k r = k ∷ r.at.sector ∷ r.at.low ∷ r.at.high ∷ r.at.head ∷ r.after ∷ r.word ∷ []

-- a transfer that has no sector: its kind and the place of its next word
abbrev pub place_bytes : ℕ → ℕ → List ℕ
place_bytes k w = k ∷ 0 ∷ 0 ∷ 0 ∷ 0 ∷ 0 ∷ w ∷ []

-- the kind of a password block's transfer
abbrev pub purpose_kind : Purpose → ℕ
purpose_kind Set = 5
purpose_kind Unlock = 6
purpose_kind Erase = 7
purpose_kind Disable = 8

-- bytes 11 to 17
abbrev pub transfer_bytes : Transfer → List ℕ
transfer_bytes Idle = place_bytes 0 0
transfer_bytes (Reading r) = run_bytes 1 r
transfer_bytes (Writing r) = run_bytes 2 r
transfer_bytes (ReadingBuffer n) = place_bytes 3 n
transfer_bytes (WritingBuffer n) = place_bytes 4 n
transfer_bytes (TakingPassword b) = place_bytes (purpose_kind b.purpose) b.word

-- bytes 0 to 17
abbrev pub hot_bytes : Hot → List ℕ
hot_bytes h =
    h.regs.error ∷ h.regs.features ∷ h.regs.count
    ∷ h.regs.at.sector ∷ h.regs.at.low ∷ h.regs.at.high ∷ h.regs.at.head
    ∷ mark_byte h.signals.held ∷ mark_byte h.signals.masked ∷ mark_byte h.signals.raised ∷ mark_byte h.signals.failed
    ∷ transfer_bytes h.transfer

-- the lock state's number
abbrev pub lock_byte : Lock → ℕ
lock_byte Open = 0
lock_byte Locked = 1
lock_byte Frozen = 2

-- bytes 18 to 30
abbrev pub number_bytes : Settled → List ℕ
number_bytes s =
    s.geometry.cylinders % 256 ∷ s.geometry.cylinders / 256 ∷ s.geometry.heads ∷ s.geometry.sectors
    ∷ s.translation.cylinders % 256 ∷ s.translation.cylinders / 256 ∷ s.translation.heads ∷ s.translation.sectors
    ∷ lock_byte s.security.lock ∷ mark_byte s.security.enabled ∷ mark_byte s.security.maximum
    ∷ s.security.attempts ∷ mark_byte s.security.prepared ∷ []

-- bytes 31 to 98
abbrev pub identity_bytes : Identity → List ℕ
identity_bytes i = i.serial ++ (i.firmware ++ i.model)

-- bytes 0 to 98
abbrev pub front_bytes : Hot → Settled → List ℕ
front_bytes h s = hot_bytes h ++ (number_bytes s ++ identity_bytes s.identity)

-- bytes 99 to 162
abbrev pub secrets_bytes : Secrets → List ℕ
secrets_bytes x = x.user ++ x.master

-- the bytes behind the hot part's
abbrev pub rest_bytes : Settled → Secrets → List ℕ
rest_bytes s x = number_bytes s ++ (identity_bytes s.identity ++ secrets_bytes x)

-- the state of a device
abbrev pub state_of : Device → List ℕ
state_of d = hot_bytes d.face.hot ++ rest_bytes d.face.settled d.secrets
