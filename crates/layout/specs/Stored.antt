-- A device read off the bytes that its host keeps: 163 bytes of state, and the sector buffer beside them (docs/EMBEDDING.md has the table).
use Rattle.std.specs.Prelude.{ℕ, ◌+◌, ◌*◌, Bool, true, false, ◌&&◌, List, ltb, eqb, length, get_or, take, drop}
use Rattle.base.specs.Choice.{pick}
use Rattle.geometry.specs.declared.Geometry.{Geometry}
use Rattle.geometry.specs.declared.Translation.{Translation}
use Rattle.address.specs.declared.AddressRegisters.{AddressRegisters}
use Rattle.lock.specs.declared.Lock.{Lock}
use Rattle.lock.specs.declared.Lock.TheVariants.{Open, Locked, Frozen}
use Rattle.lock.specs.declared.Purpose.{Purpose}
use Rattle.lock.specs.declared.Purpose.TheVariants.{Set, Unlock, Erase, Disable}
use Rattle.lock.specs.declared.Secrets.{Secrets}
use Rattle.lock.specs.declared.Security.{Security}
use Rattle.settled.specs.declared.Identity.{Identity}
use Rattle.settled.specs.declared.Settled.{Settled}
use Rattle.face.specs.declared.Registers.{Registers}
use Rattle.face.specs.declared.Signals.{Signals}
use Rattle.face.specs.declared.Run.{Run}
use Rattle.face.specs.declared.PasswordBlock.{PasswordBlock}
use Rattle.face.specs.declared.Transfer.{Transfer}
use Rattle.face.specs.declared.Transfer.TheVariants.{Idle, Reading, Writing, ReadingBuffer, WritingBuffer, TakingPassword}
use Rattle.face.specs.declared.Hot.{Hot}
use Rattle.device.specs.declared.Device.{Device}

-- how many bytes the state has
abbrev pub state_length : ℕ
state_length = 163

-- four bytes: registers 3 to 6
abbrev pub address_stored : List ℕ → ℕ → AddressRegisters
address_stored b i =
    record { sector = get_or b i 0; low = get_or b (i + 1) 0; high = get_or b (i + 2) 0; head = get_or b (i + 3) 0 }

-- bytes 0 to 6: Error, Features, Sector Count, and registers 3 to 6
abbrev pub registers_stored : List ℕ → Registers
registers_stored b = record { error = get_or b 0 0; features = get_or b 1 0; count = get_or b 2 0; at = address_stored b 3 }

-- a mark is 1 where it is set
abbrev pub mark_stored : ℕ → Bool
mark_stored x = eqb x 1

-- bytes 7 to 10: reset held, interrupt masked, interrupt raised, last command failed
abbrev pub signals_stored : List ℕ → Signals
signals_stored b =
    record {
      held = mark_stored (get_or b 7 0);
      masked = mark_stored (get_or b 8 0);
      raised = mark_stored (get_or b 9 0);
      failed = mark_stored (get_or b 10 0);
    }

-- bytes 12 to 17: the current sector's registers 3 to 6, the sectors after it, the place of the next word
abbrev pub run_stored : List ℕ → Run
run_stored b = record { at = address_stored b 12; after = get_or b 16 0; word = get_or b 17 0 }

-- a password block for this, whose next word has this place
abbrev pub block_of : Purpose → ℕ → PasswordBlock
block_of p w = record { purpose = p; word = w }

-- a password block, whose next word's place is byte 17
abbrev pub password_stored : List ℕ → Purpose → Transfer
password_stored b p = TakingPassword (block_of p (get_or b 17 0))

-- by byte 11, the kind of the transfer
abbrev pub transfer_as : ℕ → List ℕ → Transfer
transfer_as k b =
    pick (eqb k 0) Idle
    (pick (eqb k 1) (Reading (run_stored b))
    (pick (eqb k 2) (Writing (run_stored b))
    (pick (eqb k 3) (ReadingBuffer (get_or b 17 0))
    (pick (eqb k 4) (WritingBuffer (get_or b 17 0))
    (pick (eqb k 5) (password_stored b Set)
    (pick (eqb k 6) (password_stored b Unlock)
    (pick (eqb k 7) (password_stored b Erase) (password_stored b Disable))))))))

-- bytes 11 to 17: the transfer
unfoldable pub transfer_stored : List ℕ → Transfer
transfer_stored b = transfer_as (get_or b 11 0) b

-- bytes 0 to 17
abbrev pub hot_stored : List ℕ → Hot
hot_stored b = record { regs = registers_stored b; signals = signals_stored b; transfer = transfer_stored b }

-- two bytes, low one first
abbrev pub pair_stored : List ℕ → ℕ → ℕ
pair_stored b i = get_or b i 0 + 256 * get_or b (i + 1) 0

-- bytes 18 to 21: the factory geometry
abbrev pub geometry_stored : List ℕ → Geometry
geometry_stored b = record { cylinders = pair_stored b 18; heads = get_or b 20 0; sectors = get_or b 21 0 }

-- bytes 22 to 25: the translation in force
abbrev pub translation_stored : List ℕ → Translation
translation_stored b = record { cylinders = pair_stored b 22; heads = get_or b 24 0; sectors = get_or b 25 0 }

-- the lock state by its number
unfoldable pub lock_stored : ℕ → Lock
lock_stored x = pick (eqb x 0) Open (pick (eqb x 1) Locked Frozen)

-- bytes 26 to 30: lock, enabled mark, level Maximum, attempts left, preparation
abbrev pub security_stored : List ℕ → Security
security_stored b =
    record {
      lock = lock_stored (get_or b 26 0);
      enabled = mark_stored (get_or b 27 0);
      maximum = mark_stored (get_or b 28 0);
      attempts = get_or b 29 0;
      prepared = mark_stored (get_or b 30 0);
    }

-- serial, firmware and model, one after the other
abbrev pub identity_stored : List ℕ → ℕ → Identity
identity_stored b i =
    record { serial = take 20 (drop i b); firmware = take 8 (drop (i + 20) b); model = take 40 (drop (i + 28) b) }

-- bytes 18 to 98
abbrev pub settled_stored : List ℕ → Settled
settled_stored b =
    record {
      geometry = geometry_stored b;
      translation = translation_stored b;
      identity = identity_stored b 31;
      security = security_stored b;
    }

-- bytes 99 to 162: the user's password, then the master's
abbrev pub secrets_stored : List ℕ → Secrets
secrets_stored b = record { user = take 32 (drop 99 b); master = take 32 (drop 131 b) }

-- the device that state and buffer hold
abbrev pub device_stored : List ℕ → List ℕ → Device
device_stored b x =
    record { face = record { hot = hot_stored b; settled = settled_stored b; buffer = x }; secrets = secrets_stored b }

-- ---- which bytes are a device's: each device has one way to be written

-- a mark is 0 or 1
abbrev pub mark_formed : ℕ → Bool
mark_formed x = ltb x 2

-- all marks are
abbrev pub marks_formed : List ℕ → Bool
marks_formed b =
    mark_formed (get_or b 7 0) && mark_formed (get_or b 8 0) && mark_formed (get_or b 9 0) && mark_formed (get_or b 10 0)
    && mark_formed (get_or b 27 0) && mark_formed (get_or b 28 0) && mark_formed (get_or b 30 0)

-- no current sector
abbrev pub no_run_stored : List ℕ → Bool
no_run_stored b =
    eqb (get_or b 12 0) 0 && eqb (get_or b 13 0) 0 && eqb (get_or b 14 0) 0 && eqb (get_or b 15 0) 0 && eqb (get_or b 16 0) 0

-- by byte 11: a transfer is of a kind there is, and the bytes that it has no use for are 0
abbrev pub transfer_formed_as : ℕ → List ℕ → Bool
transfer_formed_as k b =
    pick (eqb k 0) (no_run_stored b && eqb (get_or b 17 0) 0)
    (pick (eqb k 1) true
    (pick (eqb k 2) true
    (no_run_stored b && ltb k 9)))

-- the transfer is one
unfoldable pub transfer_formed : List ℕ → Bool
transfer_formed b = transfer_formed_as (get_or b 11 0) b

-- the bytes are those of a device
unfoldable pub formed_of : List ℕ → Bool
formed_of b =
    pick (eqb (length b) state_length) (marks_formed b && transfer_formed b && ltb (get_or b 26 0) 3) false
