-- Words of one block: up to which place they pass, and what the whole block leaves of face and sectors.
use Rattle.std.specs.Prelude.{ℕ, ◌+◌, ◌≤◌, ◌<◌, ◌≡◌, Bool, true, false, List, ltb, length, get_or, drop}
use Rattle.std.proofs.Math.Seq.{paste}
use Rattle.base.specs.Choice.{pick}
use Rattle.face.specs.Face.{with_hot}
use Rattle.face.specs.declared.Face.{Face}
use Rattle.face.specs.declared.Transfer.{Transfer}
use Rattle.face.specs.declared.Transfer.TheVariants.{Idle, Reading, Writing, ReadingBuffer, WritingBuffer, TakingPassword}
use Rattle.transfers.specs.Sectors.{finish_face}
use Rattle.reading.specs.Words.{read_word_as}
use Rattle.writing.specs.Words.{write_last_of, write_last_sectors}
use Rattle.glance.specs.Places.{placed_at, hot_at}

-- the face whose transfer stands at that word
abbrev pub face_at : Face → ℕ → Face
face_at f place = with_hot f (hot_at f.hot place f.hot.signals.raised)

-- the words of the block up to that place have been read: behind its last it is what that word leaves
unfoldable pub read_up_to : Face → List ℕ → ℕ → Face
read_up_to f m place = pick (ltb place 256) (face_at f place) (read_word_as f m (placed_at f.hot.transfer 255)).left

-- where the words end that are taken in here: a password block's last is judged, which takes more of the device
abbrev pub takes_to : Transfer → ℕ
takes_to Idle = 0
takes_to (Reading r) = 0
takes_to (Writing r) = 256
takes_to (ReadingBuffer n) = 0
takes_to (WritingBuffer n) = 256
takes_to (TakingPassword b) = 255

-- the transfer's next word is taken in here
abbrev pub takes_here : Transfer → Bool
takes_here Idle = false
takes_here (Reading r) = false
takes_here (Writing r) = true
takes_here (ReadingBuffer n) = false
takes_here (WritingBuffer n) = true
takes_here (TakingPassword b) = ltb b.word 255

-- a whole block has arrived in the buffer: the face
abbrev pub block_taken : Face → Transfer → Face
block_taken f Idle = f
block_taken f (Reading r) = f
block_taken f (Writing r) = write_last_of f r
block_taken f (ReadingBuffer n) = f
block_taken f (WritingBuffer n) = finish_face f
block_taken f (TakingPassword b) = f

-- a whole block has arrived in the buffer: the sectors
abbrev pub block_stored : Face → List ℕ → Transfer → List ℕ
block_stored f m Idle = m
block_stored f m (Reading r) = m
block_stored f m (Writing r) = write_last_sectors f m r
block_stored f m (ReadingBuffer n) = m
block_stored f m (WritingBuffer n) = m
block_stored f m (TakingPassword b) = m

-- the words of the block up to that place have arrived in the buffer: the face
unfoldable pub written_up_to : Face → ℕ → Face
written_up_to f place = pick (ltb place 256) (face_at f place) (block_taken f f.hot.transfer)

-- the words of the block up to that place have arrived in the buffer: the sectors
unfoldable pub stored_up_to : Face → List ℕ → ℕ → List ℕ
stored_up_to f m place = pick (ltb place 256) m (block_stored f m f.hot.transfer)

-- `size` bytes of `from`, from `at` on, have been copied into `to`, from `put` on, which gives `out`
pub record Moved (from : List ℕ) (at : ℕ) (to : List ℕ) (put size : ℕ) (out : List ℕ) : Type 0 where
  pub is : out ≡ paste to put (drop at from) size
  pub bytes : (i : ℕ) → i < size → get_or from (at + i) 0 < 256

-- both have room for that
pub record Reach (from : List ℕ) (at : ℕ) (to : List ℕ) (put size : ℕ) : Type 0 where
  pub source : at + size ≤ length from
  pub room : put + size ≤ length to
