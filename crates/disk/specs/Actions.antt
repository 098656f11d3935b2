-- The host's actions on a disk, whichever device is selected (document 01, "Host actions and when they are turned away").
use Rattle.std.specs.Prelude.{ℕ, List, eqb}
use Rattle.base.specs.Choice.{pick, within}
use Rattle.lock.specs.declared.Secrets.{Secrets}
use Rattle.face.specs.Face.{with_hot}
use Rattle.face.specs.Reads.{read_register, line_of}
use Rattle.face.specs.Writes.{put_register}
use Rattle.resets.specs.Resets.{powered_on_face}
use Rattle.resets.specs.Control.{control_of}
use Rattle.face.specs.declared.Transfer.{Transfer}
use Rattle.face.specs.declared.Transfer.TheVariants.{Idle, Reading, Writing, ReadingBuffer, WritingBuffer, TakingPassword}
use Rattle.face.specs.declared.Answer.TheVariants.{Done, NoRegister, NoTransfer}
use Rattle.face.specs.declared.Action.{Action}
use Rattle.face.specs.declared.Action.TheVariants.{ReadRegister, WriteRegister, ReadWord, WriteWord, HardwareReset, PowerOn, Line}
use Rattle.face.specs.declared.Face.{Face}
use Rattle.transfers.specs.Words.{told, write_buffer_word}
use Rattle.reading.specs.Words.{read_word_of}
use Rattle.writing.specs.Words.{write_run_of, write_run_sectors}
use Rattle.face.specs.declared.Shows.{Shows}
use Rattle.commands.specs.Gate.{command_of}
use Rattle.effects.specs.Effects.{acted, Effect, effect, seen_acted}
use Rattle.password.specs.Passwords.{password_word, password_word_sectors}
use Rattle.effects.specs.declared.Acted.{Acted}

-- an action on the face
abbrev pub told_acted : Secrets → Shows Face → Acted
told_acted x t = acted t.left x t.answer t.value

-- registers 1 to 6 are stored, 7 is the Command register and 8 Device Control; "register 0 or above 8" is answer 1
unfoldable pub write_register_of : Face → List ℕ → ℕ → ℕ → Shows Face
write_register_of f m n v =
    pick (within 1 6 n) (told (with_hot f (put_register f.hot n v)) Done 0)
    (pick (eqb n 7) (told (command_of f m v) Done 0)
    (pick (eqb n 8) (told (control_of f v) Done 0)
    (told f NoRegister 0)))

-- answer 4, "data word with no transfer that way": 0, everything unchanged
abbrev pub word_refused : Face → Secrets → List ℕ → Effect
word_refused f x m = effect (acted f x NoTransfer 0) m

-- by kind of transfer
abbrev pub write_word_as : Face → Secrets → List ℕ → ℕ → Transfer → Effect
write_word_as f x m w Idle = word_refused f x m
write_word_as f x m w (Reading r) = word_refused f x m
write_word_as f x m w (Writing r) = effect (acted (write_run_of f r w) x Done 0) (write_run_sectors f m r w)
write_word_as f x m w (ReadingBuffer n) = word_refused f x m
write_word_as f x m w (WritingBuffer n) = effect (acted (write_buffer_word f n w) x Done 0) m
write_word_as f x m w (TakingPassword b) = effect (password_word f x b w) (password_word_sectors f x m b w)

-- a data word is written
unfoldable pub write_word_of : Face → Secrets → List ℕ → ℕ → Effect
write_word_of f x m w = write_word_as f x m w f.hot.transfer

-- each action
unfoldable pub act_of : Face → Secrets → List ℕ → Action → Effect
act_of f x m (ReadRegister n) = effect (seen_acted f x (read_register f.hot n)) m
act_of f x m (WriteRegister n v) = effect (told_acted x (write_register_of f m n v)) m
act_of f x m ReadWord = effect (told_acted x (read_word_of f m)) m
act_of f x m (WriteWord w) = write_word_of f x m w
act_of f x m HardwareReset = effect (acted (powered_on_face f) x Done 0) m
act_of f x m PowerOn = effect (acted (powered_on_face f) x Done 0) m
act_of f x m Line = effect (acted f x Done (line_of f.hot)) m
