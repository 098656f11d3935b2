-- The fast path: what the register file, the transfer and the buffer settle by themselves. The disk crate's law quick_act shows that
-- it is the word-by-word action, for every disk and every action.
use Rattle.std.specs.Prelude.{ℕ, ◌+◌, List, ltb, Option, Some, None}
use Rattle.base.specs.Choice.{pick, within}
use Rattle.block.specs.Words.{word_at, word_put}
use Rattle.face.specs.declared.Shows.{Shows}
use Rattle.face.specs.Face.{with_transfer, next_word, next_password_word}
use Rattle.face.specs.Reads.{seen, read_register, line_of}
use Rattle.face.specs.Writes.{put_register}
use Rattle.face.specs.declared.Transfer.{Transfer}
use Rattle.face.specs.declared.Transfer.TheVariants.{Idle, Reading, Writing, ReadingBuffer, WritingBuffer, TakingPassword}
use Rattle.face.specs.declared.Hot.{Hot}
use Rattle.face.specs.declared.Action.{Action}
use Rattle.face.specs.declared.Action.TheVariants.{ReadRegister, WriteRegister, ReadWord, WriteWord, HardwareReset, PowerOn, Line}
use Rattle.face.specs.declared.Answer.TheVariants.{Done}

-- the transfer goes on to its next word
abbrev pub goes_on : Hot → Transfer → ℕ → Option (Shows Hot)
goes_on h t v = Some (seen (with_transfer h t) Done v)

-- a word is read that is not its block's last
unfoldable pub quick_read_of : Hot → List ℕ → Transfer → Option (Shows Hot)
quick_read_of h b Idle = None
quick_read_of h b (Reading r) = pick (ltb r.word 255) (goes_on h (Reading (next_word r)) (word_at b r.word)) None
quick_read_of h b (Writing r) = None
quick_read_of h b (ReadingBuffer n) = pick (ltb n 255) (goes_on h (ReadingBuffer (n + 1)) (word_at b n)) None
quick_read_of h b (WritingBuffer n) = None
quick_read_of h b (TakingPassword p) = None

-- a word is written that is not its block's last
unfoldable pub quick_write_of : Hot → Transfer → Option (Shows Hot)
quick_write_of h Idle = None
quick_write_of h (Reading r) = None
quick_write_of h (Writing r) = pick (ltb r.word 255) (goes_on h (Writing (next_word r)) 0) None
quick_write_of h (ReadingBuffer n) = None
quick_write_of h (WritingBuffer n) = pick (ltb n 255) (goes_on h (WritingBuffer (n + 1)) 0) None
quick_write_of h (TakingPassword p) = pick (ltb p.word 255) (goes_on h (TakingPassword (next_password_word p)) 0) None

-- the buffer with that word
unfoldable pub quick_write_buffer : List ℕ → ℕ → Transfer → List ℕ
quick_write_buffer b w Idle = b
quick_write_buffer b w (Reading r) = b
quick_write_buffer b w (Writing r) = pick (ltb r.word 255) (word_put b r.word w) b
quick_write_buffer b w (ReadingBuffer n) = b
quick_write_buffer b w (WritingBuffer n) = pick (ltb n 255) (word_put b n w) b
quick_write_buffer b w (TakingPassword p) = pick (ltb p.word 255) (word_put b p.word w) b

-- a write to one of registers 1 to 6
unfoldable pub quick_put_of : Hot → ℕ → ℕ → Option (Shows Hot)
quick_put_of h n v = pick (within 1 6 n) (Some (seen (put_register h n v) Done 0)) None

-- what the hot part and the buffer settle
unfoldable pub quick_of : Hot → List ℕ → Action → Option (Shows Hot)
quick_of h b (ReadRegister n) = Some (read_register h n)
quick_of h b (WriteRegister n v) = quick_put_of h n v
quick_of h b ReadWord = quick_read_of h b h.transfer
quick_of h b (WriteWord w) = quick_write_of h h.transfer
quick_of h b HardwareReset = None
quick_of h b PowerOn = None
quick_of h b Line = Some (seen h Done (line_of h))

-- and what they leave in the buffer
unfoldable pub quick_buffer : Hot → List ℕ → Action → List ℕ
quick_buffer h b (ReadRegister n) = b
quick_buffer h b (WriteRegister n v) = b
quick_buffer h b ReadWord = b
quick_buffer h b (WriteWord w) = quick_write_buffer b w h.transfer
quick_buffer h b HardwareReset = b
quick_buffer h b PowerOn = b
quick_buffer h b Line = b
