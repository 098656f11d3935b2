-- What a drop, power-on and hardware reset leave of the face (document 01, "The disk and its three lives", "Registers").
use Rattle.block.specs.Sectors.{zero_block}
use Rattle.lock.specs.declared.Purpose.{Purpose}
use Rattle.lock.specs.declared.Purpose.TheVariants.{Set, Unlock, Erase, Disable}
use Rattle.settled.specs.Settled.{settled_unprepared, settled_powered_on}
use Rattle.face.specs.Face.{idle_face, start_hot, with_hot, with_settled, with_buffer}
use Rattle.face.specs.declared.PasswordBlock.{PasswordBlock}
use Rattle.face.specs.declared.Transfer.{Transfer}
use Rattle.face.specs.declared.Transfer.TheVariants.{Idle, Reading, Writing, ReadingBuffer, WritingBuffer, TakingPassword}
use Rattle.face.specs.declared.Face.{Face}

-- the preparation ended
abbrev pub unprepared_face : Face → Face
unprepared_face f = with_settled f (settled_unprepared f.settled)

-- "preparation lasts until F4h .. is dropped by another Command"
abbrev pub drop_purpose : Face → Purpose → Face
drop_purpose f Set = f
drop_purpose f Unlock = f
drop_purpose f Erase = unprepared_face f
drop_purpose f Disable = f

-- F1h, F2h, F4h and F6h: "The buffer is zeroed however such a transfer ends"
abbrev pub drop_block : Face → PasswordBlock → Face
drop_block f b = drop_purpose (with_buffer f zero_block) b.purpose

-- "all that a drop clears", by kind of transfer: of the others the words that arrived stay in the buffer
abbrev pub drop_as : Face → Transfer → Face
drop_as f Idle = f
drop_as f (Reading r) = f
drop_as f (Writing r) = f
drop_as f (ReadingBuffer n) = f
drop_as f (WritingBuffer n) = f
drop_as f (TakingPassword b) = drop_block f b

-- "a Command write first drops the transfer, with all that a drop clears"
unfoldable pub dropped_of : Face → Face
dropped_of f = drop_as (idle_face f) f.hot.transfer

-- power-on and hardware reset: "registers to their start values, factory translation, transfer dropped, sector buffer zeroed"
abbrev pub powered_on_face : Face → Face
powered_on_face f = with_buffer (with_settled (with_hot f start_hot) (settled_powered_on f.settled)) zero_block
