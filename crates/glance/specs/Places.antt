-- The place of the next word and the interrupt, held apart from the hot part and put back.
use Rattle.std.specs.Prelude.{ℕ, Bool}
use Rattle.face.specs.Face.{with_raised, with_signals, with_transfer}
use Rattle.face.specs.declared.Run.{Run}
use Rattle.face.specs.declared.PasswordBlock.{PasswordBlock}
use Rattle.face.specs.declared.Transfer.{Transfer}
use Rattle.face.specs.declared.Transfer.TheVariants.{Idle, Reading, Writing, ReadingBuffer, WritingBuffer, TakingPassword}
use Rattle.face.specs.declared.Hot.{Hot}

-- the place of the transfer's next word
abbrev pub place_of : Transfer → ℕ
place_of Idle = 0
place_of (Reading r) = r.word
place_of (Writing r) = r.word
place_of (ReadingBuffer n) = n
place_of (WritingBuffer n) = n
place_of (TakingPassword b) = b.word

-- a sector transfer whose next word is this one
abbrev pub run_placed_at : Run → ℕ → Run
run_placed_at r word = record { at = r.at; after = r.after; word = word }

-- a password block whose next word is this one
abbrev pub block_placed_at : PasswordBlock → ℕ → PasswordBlock
block_placed_at b word = record { purpose = b.purpose; word = word }

-- the transfer whose next word is this one
abbrev pub placed_at : Transfer → ℕ → Transfer
placed_at Idle word = Idle
placed_at (Reading r) word = Reading (run_placed_at r word)
placed_at (Writing r) word = Writing (run_placed_at r word)
placed_at (ReadingBuffer n) word = ReadingBuffer word
placed_at (WritingBuffer n) word = WritingBuffer word
placed_at (TakingPassword b) word = TakingPassword (block_placed_at b word)

-- the hot part with the interrupt raised or not
abbrev pub with_interrupt : Hot → Bool → Hot
with_interrupt h raised = with_signals h (with_raised h.signals raised)

-- the hot part with this transfer, its next word and its interrupt
abbrev pub hot_with : Hot → Transfer → ℕ → Bool → Hot
hot_with h t word raised = with_transfer (with_interrupt h raised) (placed_at t word)

-- the hot part, with what was held apart put back
abbrev pub hot_at : Hot → ℕ → Bool → Hot
hot_at h word raised = hot_with h h.transfer word raised
