-- In which lock state a code may run, and what bars it besides (document 01, "The lock").
use Rattle.std.specs.Prelude.{ℕ, Bool, true, false}
use Rattle.lock.specs.Lock.{is_open, exhausted_of, cannot_erase}
use Rattle.lock.specs.declared.Lock.{Lock}
use Rattle.lock.specs.declared.Lock.TheVariants.{Open, Locked, Frozen}
use Rattle.lock.specs.declared.Security.{Security}
use Rattle.codes.specs.Commands.{decode_of}
use Rattle.codes.specs.declared.Command.{Command}
use Rattle.codes.specs.declared.Command.TheVariants.{Unknown, Recalibrate, ReadSectors, WriteSectors, VerifySectors, Seek, ExecuteDiagnostic, InitializeParameters, ReadBuffer, WriteBuffer, IdentifyDevice, SecuritySetPassword, SecurityUnlock, SecurityErasePrepare, SecurityEraseUnit, SecurityFreezeLock, SecurityDisablePassword}

-- open or frozen
abbrev pub not_locked : Lock → Bool
not_locked Open = true
not_locked Locked = false
not_locked Frozen = true

-- open or locked
abbrev pub not_frozen : Lock → Bool
not_frozen Open = true
not_frozen Locked = true
not_frozen Frozen = false

-- "Locked aborts at once: 20h, 21h, 30h, 31h, 40h, 41h, F1h, F5h, F6h. Frozen aborts at once: F1h, F2h, F4h, F6h"
abbrev pub runs_in : Command → Lock → Bool
runs_in Unknown l = false
runs_in Recalibrate l = true
runs_in ReadSectors l = not_locked l
runs_in WriteSectors l = not_locked l
runs_in VerifySectors l = not_locked l
runs_in Seek l = true
runs_in ExecuteDiagnostic l = true
runs_in InitializeParameters l = true
runs_in ReadBuffer l = true
runs_in WriteBuffer l = true
runs_in IdentifyDevice l = true
runs_in SecuritySetPassword l = is_open l
runs_in SecurityUnlock l = not_frozen l
runs_in SecurityErasePrepare l = true
runs_in SecurityEraseUnit l = not_frozen l
runs_in SecurityFreezeLock l = not_locked l
runs_in SecurityDisablePassword l = is_open l

-- whether a code may run in a lock state
unfoldable pub may_run_of : ℕ → Lock → Bool
may_run_of code l = runs_in (decode_of code) l

-- "F4h also aborts without preparation, and F2h and F4h with no attempts left"
abbrev pub barred_of : Command → Security → Bool
barred_of Unknown s = false
barred_of Recalibrate s = false
barred_of ReadSectors s = false
barred_of WriteSectors s = false
barred_of VerifySectors s = false
barred_of Seek s = false
barred_of ExecuteDiagnostic s = false
barred_of InitializeParameters s = false
barred_of ReadBuffer s = false
barred_of WriteBuffer s = false
barred_of IdentifyDevice s = false
barred_of SecuritySetPassword s = false
barred_of SecurityUnlock s = exhausted_of s
barred_of SecurityErasePrepare s = false
barred_of SecurityEraseUnit s = cannot_erase s
barred_of SecurityFreezeLock s = false
barred_of SecurityDisablePassword s = false
