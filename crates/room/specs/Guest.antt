-- A guest's side of a locked device in shape: by the face alone. Neither passwords nor sectors are among the arguments.
use Rattle.std.specs.Prelude.{ℕ, List, [], ◌∷◌, ltb}
use Rattle.base.specs.Choice.{pick}
use Rattle.lock.specs.Lock.{unprepared_of}
use Rattle.lock.specs.declared.Security.{Security}
use Rattle.lock.specs.declared.Purpose.{Purpose}
use Rattle.lock.specs.declared.Purpose.TheVariants.{Set, Unlock, Erase, Disable}
use Rattle.judging.specs.Judging.{mismatched_of, master_at_maximum}
use Rattle.face.specs.Face.{with_hot}
use Rattle.face.specs.Reads.{read_register, line_of}
use Rattle.face.specs.declared.PasswordBlock.{PasswordBlock}
use Rattle.face.specs.declared.Transfer.{Transfer}
use Rattle.face.specs.declared.Transfer.TheVariants.{Idle, Reading, Writing, ReadingBuffer, WritingBuffer, TakingPassword}
use Rattle.face.specs.declared.Answer.TheVariants.{Done}
use Rattle.face.specs.declared.Action.{Action}
use Rattle.face.specs.declared.Action.TheVariants.{ReadRegister, WriteRegister, ReadWord, WriteWord, HardwareReset, PowerOn, Line}
use Rattle.face.specs.declared.Hot.{Hot}
use Rattle.face.specs.declared.Shows.{Shows}
use Rattle.face.specs.declared.Face.{Face}
use Rattle.resets.specs.Resets.{powered_on_face}
use Rattle.fastpath.specs.Dev.{ignored_of}
use Rattle.transfers.specs.Sectors.{abort_face}
use Rattle.transfers.specs.Words.{told, no_transfer, word_in, write_buffer_word}
use Rattle.reading.specs.Words.{read_word_of}
use Rattle.password.specs.Passwords.{password_ended, password_more}
use Rattle.disk.specs.Actions.{write_register_of}
use Rattle.laws.specs.Sessions.{Given, given}

-- a refused block: F2h "a mismatch .. takes one attempt", but for "master at Maximum"; F4h's preparation ends
abbrev pub refused_security : Security → List ℕ → Purpose → Security
refused_security s b Set = s
refused_security s b Unlock = pick (master_at_maximum s b) s (mismatched_of s)
refused_security s b Erase = unprepared_of s
refused_security s b Disable = s

-- a block that is not accepted aborts, and "The buffer is zeroed however such a transfer ends"
unfoldable pub refused_last : Face → Purpose → Face
refused_last f p = abort_face (password_ended f (refused_security f.settled.security f.buffer p))

-- a word of a password block: the 256th is refused, whatever the block holds
unfoldable pub guest_password : Face → PasswordBlock → ℕ → Face
guest_password f b w =
    pick (ltb b.word 255) (password_more f b w) (refused_last (word_in f b.word w) b.purpose)

-- a data word, by the transfer that is open: no sector transfer is, while locked
abbrev pub guest_word : Face → ℕ → Transfer → Shows Face
guest_word f w Idle = no_transfer f
guest_word f w (Reading r) = no_transfer f
guest_word f w (Writing r) = no_transfer f
guest_word f w (ReadingBuffer n) = no_transfer f
guest_word f w (WritingBuffer n) = told (write_buffer_word f n w) Done 0
guest_word f w (TakingPassword b) = told (guest_password f b w) Done 0

-- a register that is read
abbrev pub guest_seen : Face → Shows Hot → Shows Face
guest_seen f s = told (with_hot f s.left) s.answer s.value

-- each action: the device's own definitions, over no memory at all
unfoldable pub guest_act : Face → Action → Shows Face
guest_act f (ReadRegister n) = guest_seen f (read_register f.hot n)
guest_act f (WriteRegister n v) = write_register_of f [] n v
guest_act f ReadWord = read_word_of f []
guest_act f (WriteWord w) = guest_word f w f.hot.transfer
guest_act f HardwareReset = told (powered_on_face f) Done 0
guest_act f PowerOn = told (powered_on_face f) Done 0
guest_act f Line = told f Done (line_of f.hot)

-- what a guest gets by an action, and the face that it leaves: "With DEV set, 7 and 8 read 00h .. and commands other than 90h do nothing"
unfoldable pub guest_step : Face → Action → Shows Face
guest_step f a = pick (ignored_of f.hot a) (told f Done 0) (guest_act f a)

-- a guest's answers
unfoldable pub guest_answers : Face → List Action → List Given
guest_answers f [] = []
guest_answers f (a ∷ l) = given (guest_step f a).answer (guest_step f a).value ∷ guest_answers (guest_step f a).left l

-- and the face that its session leaves
unfoldable pub guest_face : Face → List Action → Face
guest_face f [] = f
guest_face f (a ∷ l) = guest_face (guest_step f a).left l
