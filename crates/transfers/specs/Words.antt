-- Data words of the buffer, and what an action on the face shows (document 01, "Commands").
use Rattle.std.specs.Prelude.{ℕ, ◌+◌, ltb}
use Rattle.base.specs.Choice.{pick}
use Rattle.block.specs.Words.{word_at, word_put}
use Rattle.face.specs.Face.{with_transfer, with_hot, with_buffer, idle_face}
use Rattle.face.specs.Ends.{finish_of}
use Rattle.face.specs.declared.Transfer.TheVariants.{ReadingBuffer, WritingBuffer}
use Rattle.face.specs.declared.Answer.{Answer}
use Rattle.face.specs.declared.Answer.TheVariants.{Done, NoTransfer}
use Rattle.face.specs.declared.Face.{Face}
use Rattle.face.specs.declared.Shows.{Shows}

-- what an action on the face shows
abbrev pub told : Face → Answer → ℕ → Shows Face
told f a v = record { left = f; answer = a; value = v }

-- answer 4: "data word with no transfer that way"
abbrev pub no_transfer : Face → Shows Face
no_transfer f = told f NoTransfer 0

-- a word of E4h or ECh has been read
unfoldable pub read_buffer_word : Face → ℕ → Face
read_buffer_word f n = pick (ltb n 255) (with_hot f (with_transfer f.hot (ReadingBuffer (n + 1)))) (idle_face f)

-- a word of E4h or ECh is read
abbrev pub buffer_word : Face → ℕ → Shows Face
buffer_word f n = told (read_buffer_word f n) Done (word_at f.buffer n)

-- "each written word from its arrival on" is in the buffer
abbrev pub word_in : Face → ℕ → ℕ → Face
word_in f n w = with_buffer f (word_put f.buffer n w)

-- a word of E8h is written
unfoldable pub write_buffer_word : Face → ℕ → ℕ → Face
write_buffer_word f n w =
    pick (ltb n 255) (with_hot (word_in f n w) (with_transfer f.hot (WritingBuffer (n + 1))))
    (with_hot (word_in f n w) (finish_of f.hot))
