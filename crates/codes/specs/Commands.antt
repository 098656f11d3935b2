-- Which command a code is (document 01, "Commands").
use Rattle.std.specs.Prelude.{ℕ, ◌/◌, eqb}
use Rattle.base.specs.Choice.{pick}
use Rattle.codes.specs.declared.Command.{Command}
use Rattle.codes.specs.declared.Command.TheVariants.{Unknown, Recalibrate, ReadSectors, WriteSectors, VerifySectors, Seek, ExecuteDiagnostic, InitializeParameters, ReadBuffer, WriteBuffer, IdentifyDevice, SecuritySetPassword, SecurityUnlock, SecurityErasePrepare, SecurityEraseUnit, SecurityFreezeLock, SecurityDisablePassword}

-- the commands with one or two codes; "All others, 00h included, abort"
unfoldable pub coded_of : ℕ → Command
coded_of code =
    pick (eqb code 0x20) ReadSectors
    (pick (eqb code 0x21) ReadSectors
    (pick (eqb code 0x30) WriteSectors
    (pick (eqb code 0x31) WriteSectors
    (pick (eqb code 0x40) VerifySectors
    (pick (eqb code 0x41) VerifySectors
    (pick (eqb code 0x90) ExecuteDiagnostic
    (pick (eqb code 0x91) InitializeParameters
    (pick (eqb code 0xE4) ReadBuffer
    (pick (eqb code 0xE8) WriteBuffer
    (pick (eqb code 0xEC) IdentifyDevice
    (pick (eqb code 0xF1) SecuritySetPassword
    (pick (eqb code 0xF2) SecurityUnlock
    (pick (eqb code 0xF3) SecurityErasePrepare
    (pick (eqb code 0xF4) SecurityEraseUnit
    (pick (eqb code 0xF5) SecurityFreezeLock
    (pick (eqb code 0xF6) SecurityDisablePassword
    Unknown))))))))))))))))

-- "70h to 7Fh seek .. 10h to 1Fh recalibrate"
unfoldable pub decode_of : ℕ → Command
decode_of code = pick (eqb (code / 16) 1) Recalibrate (pick (eqb (code / 16) 7) Seek (coded_of code))
