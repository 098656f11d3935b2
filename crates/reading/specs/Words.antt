-- Data words that are read (document 01, "Commands").
use Rattle.std.specs.Prelude.{ℕ, List, ltb}
use Rattle.base.specs.Choice.{pick}
use Rattle.block.specs.Words.{word_at}
use Rattle.face.specs.Face.{with_transfer, with_hot, next_word}
use Rattle.face.specs.Ends.{ended_at}
use Rattle.face.specs.declared.Run.{Run}
use Rattle.face.specs.declared.Transfer.{Transfer}
use Rattle.face.specs.declared.Transfer.TheVariants.{Idle, Reading, Writing, ReadingBuffer, WritingBuffer, TakingPassword}
use Rattle.face.specs.declared.Answer.TheVariants.{Done}
use Rattle.face.specs.declared.Face.{Face}
use Rattle.transfers.specs.Words.{told, no_transfer, buffer_word}
use Rattle.transfers.specs.Sectors.{next_run}
use Rattle.reading.specs.Sectors.{read_at}
use Rattle.face.specs.declared.Shows.{Shows}

-- a read ends well: "count is 0 and the address is the last sector's", and "the last word .. raises nothing"
abbrev pub read_ends : Face → Run → Face
read_ends f r = with_hot f (with_transfer (ended_at f.hot r.at 0) Idle)

-- a sector has been read: the next one is reached, or the read ends
unfoldable pub read_next_of : Face → List ℕ → Run → Face
read_next_of f m r = pick (ltb 0 r.after) (read_at f m (next_run r f.settled.translation)) (read_ends f r)

-- a word of a sector has been read
unfoldable pub read_run_of : Face → List ℕ → Run → Face
read_run_of f m r =
    pick (ltb r.word 255) (with_hot f (with_transfer f.hot (Reading (next_word r)))) (read_next_of f m r)

-- a word of a sector is read
abbrev pub sector_word : Face → List ℕ → Run → Shows Face
sector_word f m r = told (read_run_of f m r) Done (word_at f.buffer r.word)

-- by kind of transfer
abbrev pub read_word_as : Face → List ℕ → Transfer → Shows Face
read_word_as f m Idle = no_transfer f
read_word_as f m (Reading r) = sector_word f m r
read_word_as f m (Writing r) = no_transfer f
read_word_as f m (ReadingBuffer n) = buffer_word f n
read_word_as f m (WritingBuffer n) = no_transfer f
read_word_as f m (TakingPassword b) = no_transfer f

-- a data word is read
unfoldable pub read_word_of : Face → List ℕ → Shows Face
read_word_of f m = read_word_as f m f.hot.transfer
