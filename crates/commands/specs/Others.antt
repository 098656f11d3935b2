-- The other commands (document 01, "Commands" and "The lock").
use Rattle.std.specs.Prelude.{Option, Some, None}
use Rattle.geometry.specs.declared.Translation.{Translation}
use Rattle.base.specs.Choice.{pick}
use Rattle.geometry.specs.Translation.{initialized_of}
use Rattle.address.specs.Registers.{lba_selected, with_sector, with_cylinder, with_head}
use Rattle.address.specs.declared.AddressRegisters.{AddressRegisters}
use Rattle.address.specs.declared.Address.{Address}
use Rattle.address.specs.declared.Address.TheVariants.{Names, Faults}
use Rattle.lock.specs.Lock.{frozen_of, prepared_of}
use Rattle.lock.specs.declared.Purpose.{Purpose}
use Rattle.settled.specs.Settled.{with_translation, with_security}
use Rattle.identify.specs.Identify.{identify_of}
use Rattle.face.specs.Registers.{start_registers}
use Rattle.face.specs.Face.{with_regs, with_transfer, with_hot, with_settled, with_buffer}
use Rattle.face.specs.Ends.{raised_of, finish_of, fail_of, ended_at}
use Rattle.face.specs.declared.Transfer.TheVariants.{ReadingBuffer, WritingBuffer, TakingPassword}
use Rattle.face.specs.declared.Face.{Face}
use Rattle.transfers.specs.Sectors.{located, abort_face, finish_face}

-- "address good, or Error 10h, registers 2 to 6 kept either way"
abbrev pub seek_as : Face → Address → Face
seek_as f (Names x) = finish_face f
seek_as f Faults = with_hot f (fail_of f.hot 0x10)

-- 70h to 7Fh
unfoldable pub seek_of : Face → Face
seek_of f = seek_as f (located f.settled f.hot.regs.at)

-- "cylinders and head nibble 0, Sector Number 1 in CHS, 0 in LBA"
unfoldable pub recalibrated_at : AddressRegisters → AddressRegisters
recalibrated_at a =
    pick (lba_selected a) (with_sector (with_head (with_cylinder a 0) 0) 0) (with_sector (with_head (with_cylinder a 0) 0) 1)

-- 10h to 1Fh
unfoldable pub recalibrate_of : Face → Face
recalibrate_of f = with_hot f (finish_of (ended_at f.hot (recalibrated_at f.hot.regs.at) f.hot.regs.count))

-- 91h makes a translation, or aborts
abbrev pub initialize_as : Face → Option Translation → Face
initialize_as f (Some t) = with_settled (finish_face f) (with_translation f.settled t)
initialize_as f None = abort_face f

-- 91h
unfoldable pub initialize_parameters_of : Face → Face
initialize_parameters_of f =
    initialize_as f (initialized_of f.settled.geometry f.hot.regs.count f.hot.regs.at.head)

-- 90h: "start values in registers 1 to 6, DEV thus clear; translation, buffer, preparation and lock stay"
unfoldable pub diagnostic_of : Face → Face
diagnostic_of f = with_hot f (finish_of (with_regs f.hot start_registers))

-- ECh: IDENTIFY fills the buffer
unfoldable pub identify_device_of : Face → Face
identify_device_of f = with_buffer (with_hot f (raised_of f.hot (ReadingBuffer 0))) (identify_of f.settled)

-- E4h: "read .. the 512-byte buffer"
unfoldable pub read_buffer_of : Face → Face
read_buffer_of f = with_hot f (raised_of f.hot (ReadingBuffer 0))

-- E8h: "write the 512-byte buffer"
unfoldable pub write_buffer_of : Face → Face
write_buffer_of f = with_hot f (with_transfer f.hot (WritingBuffer 0))

-- "F1h SET, F2h UNLOCK, F4h ERASE UNIT, F6h DISABLE take one block"
unfoldable pub take_password_of : Face → Purpose → Face
take_password_of f p = with_hot f (with_transfer f.hot (TakingPassword (record { purpose = p; word = 0 })))

-- "F3h prepares"
unfoldable pub erase_prepare_of : Face → Face
erase_prepare_of f = with_settled (finish_face f) (with_security f.settled (prepared_of f.settled.security))

-- "F5h freezes"
unfoldable pub freeze_lock_of : Face → Face
freeze_lock_of f = with_settled (finish_face f) (with_security f.settled (frozen_of f.settled.security))
