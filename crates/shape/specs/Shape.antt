-- The clauses of answer 2, but for DEV (document 01, "Host actions and when they are turned away").
use Rattle.std.specs.Prelude.{Bool, true, false, not}
use Rattle.base.specs.Choice.{pick}
use Rattle.address.specs.declared.Address.{Address}
use Rattle.address.specs.declared.Address.TheVariants.{Names, Faults}
use Rattle.lock.specs.Lock.{is_open, is_locked, is_frozen, exhausted_of, cannot_erase}
use Rattle.lock.specs.declared.Security.{Security}
use Rattle.lock.specs.declared.Purpose.{Purpose}
use Rattle.lock.specs.declared.Purpose.TheVariants.{Set, Unlock, Erase, Disable}
use Rattle.settled.specs.Settled.{settled_fits}
use Rattle.settled.specs.declared.Settled.{Settled}
use Rattle.face.specs.Reads.{is_idle}
use Rattle.face.specs.declared.Run.{Run}
use Rattle.face.specs.declared.Hot.{Hot}
use Rattle.face.specs.declared.Face.{Face}
use Rattle.face.specs.declared.Transfer.{Transfer}
use Rattle.face.specs.declared.Transfer.TheVariants.{Idle, Reading, Writing, ReadingBuffer, WritingBuffer, TakingPassword}
use Rattle.transfers.specs.Sectors.{located}

-- an address that names a sector
abbrev pub is_named : Address → Bool
is_named (Names x) = true
is_named Faults = false

-- "a current sector address that faults .. a sector .. transfer while locked"
unfoldable pub run_fits : Settled → Run → Bool
run_fits s r = pick (is_locked s.security.lock) false (is_named (located s r.at))

-- "a .. SET/DISABLE PASSWORD transfer while locked .. an UNLOCK or ERASE UNIT transfer with no attempts left; an ERASE UNIT transfer without preparation"
abbrev pub purpose_fits : Security → Purpose → Bool
purpose_fits s Set = is_open s.lock
purpose_fits s Unlock = not (exhausted_of s)
purpose_fits s Erase = not (cannot_erase s)
purpose_fits s Disable = is_open s.lock

-- "a password transfer while frozen"
unfoldable pub password_fits : Security → Purpose → Bool
password_fits s p = pick (is_frozen s.lock) false (purpose_fits s p)

-- each transfer's clauses
abbrev pub transfer_fits : Settled → Transfer → Bool
transfer_fits s Idle = true
transfer_fits s (Reading r) = run_fits s r
transfer_fits s (Writing r) = run_fits s r
transfer_fits s (ReadingBuffer n) = true
transfer_fits s (WritingBuffer n) = true
transfer_fits s (TakingPassword b) = password_fits s.security b.purpose

-- "a transfer .. with reset held"
unfoldable pub held_fits : Hot → Bool
held_fits h = pick h.signals.held (is_idle h.transfer) true

-- all clauses but those on DEV, none of which asks for the buffer
unfoldable pub parts_fit : Settled → Hot → Bool
parts_fit s h = pick (settled_fits s) (pick (held_fits h) (transfer_fits s h.transfer) false) false

-- the same of a face
abbrev pub disk_fits : Face → Bool
disk_fits f = parts_fit f.settled f.hot
