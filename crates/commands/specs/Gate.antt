-- The one gate of every Command write: ignored, drop, clear, lock state, attempts and preparation, the command (document 01, "Registers", "The lock").
use Rattle.std.specs.Prelude.{ℕ, List, eqb}
use Rattle.base.specs.Choice.{pick}
use Rattle.lock.specs.declared.Purpose.TheVariants.{Set, Unlock, Erase, Disable}
use Rattle.codes.specs.Commands.{decode_of}
use Rattle.codes.specs.MayRun.{may_run_of, barred_of}
use Rattle.codes.specs.declared.Command.{Command}
use Rattle.codes.specs.declared.Command.TheVariants.{Unknown, Recalibrate, ReadSectors, WriteSectors, VerifySectors, Seek, ExecuteDiagnostic, InitializeParameters, ReadBuffer, WriteBuffer, IdentifyDevice, SecuritySetPassword, SecurityUnlock, SecurityErasePrepare, SecurityEraseUnit, SecurityFreezeLock, SecurityDisablePassword}
use Rattle.face.specs.Face.{with_hot}
use Rattle.face.specs.Ends.{cleared_of}
use Rattle.resets.specs.Resets.{dropped_of, unprepared_face}
use Rattle.face.specs.declared.Face.{Face}
use Rattle.transfers.specs.Sectors.{abort_face}
use Rattle.reading.specs.Sectors.{read_sectors_of, verify_sectors_of}
use Rattle.writing.specs.Sectors.{write_sectors_of}
use Rattle.commands.specs.Others.{seek_of, recalibrate_of, initialize_parameters_of, diagnostic_of, identify_device_of, read_buffer_of, write_buffer_of, take_password_of, erase_prepare_of, freeze_lock_of}

-- "a Command write first drops the transfer .. A command first clears Error and the interrupt"
unfoldable pub begun_of : Face → Face
begun_of f = with_hot (dropped_of f) (cleared_of (dropped_of f).hot)

-- "aborts at once"; for F4h "preparation lasts until F4h .. is aborted"
unfoldable pub abort_at_once : Face → ℕ → Face
abort_at_once f code = pick (eqb code 0xF4) (unprepared_face (abort_face f)) (abort_face f)

-- each command
abbrev pub run_of : Face → List ℕ → Command → Face
run_of f m Unknown = abort_face f
run_of f m Recalibrate = recalibrate_of f
run_of f m ReadSectors = read_sectors_of f m
run_of f m WriteSectors = write_sectors_of f
run_of f m VerifySectors = verify_sectors_of f
run_of f m Seek = seek_of f
run_of f m ExecuteDiagnostic = diagnostic_of f
run_of f m InitializeParameters = initialize_parameters_of f
run_of f m ReadBuffer = read_buffer_of f
run_of f m WriteBuffer = write_buffer_of f
run_of f m IdentifyDevice = identify_device_of f
run_of f m SecuritySetPassword = take_password_of f Set
run_of f m SecurityUnlock = take_password_of f Unlock
run_of f m SecurityErasePrepare = erase_prepare_of f
run_of f m SecurityEraseUnit = take_password_of f Erase
run_of f m SecurityFreezeLock = freeze_lock_of f
run_of f m SecurityDisablePassword = take_password_of f Disable

-- once the transfer is dropped and Error cleared: lock state, then attempts and preparation, then the command
unfoldable pub stations_of : Face → List ℕ → ℕ → Face
stations_of f m code =
    pick (may_run_of code f.settled.security.lock)
    (pick (barred_of (decode_of code) f.settled.security) (abort_at_once f code) (run_of f m (decode_of code)))
    (abort_at_once f code)

-- a write to the Command register; "While it is held, writes to 1 to 7 do nothing"
unfoldable pub command_of : Face → List ℕ → ℕ → Face
command_of f m code = pick f.hot.signals.held f (stations_of (begun_of f) m code)
