-- Actions that move nothing but the place of the next word and the interrupt. The law glance_settles says that each is what the fast path settles.
use Rattle.std.specs.Prelude.{ℕ, ◌+◌, Bool, true, false, List, ltb, eqb, Option, Some, None}
use Rattle.base.specs.Choice.{pick}
use Rattle.block.specs.Words.{word_at, word_put}
use Rattle.face.specs.Reads.{status_of, line_of}
use Rattle.face.specs.declared.Transfer.{Transfer}
use Rattle.face.specs.declared.Transfer.TheVariants.{Idle, Reading, Writing, ReadingBuffer, WritingBuffer, TakingPassword}
use Rattle.face.specs.declared.Hot.{Hot}
use Rattle.face.specs.declared.Action.{Action}
use Rattle.face.specs.declared.Action.TheVariants.{ReadRegister, WriteRegister, ReadWord, WriteWord, HardwareReset, PowerOn, Line}
use Rattle.fastpath.specs.Dev.{dev_set}
use Rattle.glance.specs.Places.{with_interrupt}
use Rattle.glance.specs.declared.Shown.{Shown}

-- what is shown, of these parts
abbrev pub shows : ℕ → Bool → ℕ → Shown
shows word raised value = record { word = word; raised = raised; value = value }

-- the transfer's words are for the guest to read
abbrev pub hands_out : Transfer → Bool
hands_out Idle = false
hands_out (Reading r) = true
hands_out (Writing r) = false
hands_out (ReadingBuffer n) = true
hands_out (WritingBuffer n) = false
hands_out (TakingPassword b) = false

-- the transfer's words are for the guest to write
abbrev pub takes_in : Transfer → Bool
takes_in Idle = false
takes_in (Reading r) = false
takes_in (Writing r) = true
takes_in (ReadingBuffer n) = false
takes_in (WritingBuffer n) = true
takes_in (TakingPassword b) = true

-- a word is read that is not its block's last
unfoldable pub read_glance : Transfer → ℕ → Bool → List ℕ → Option Shown
read_glance t word raised b = pick (hands_out t) (pick (ltb word 255) (Some (shows (word + 1) raised (word_at b word))) None) None

-- a word is written that is not its block's last
unfoldable pub write_glance : Transfer → ℕ → Bool → Option Shown
write_glance t word raised = pick (takes_in t) (pick (ltb word 255) (Some (shows (word + 1) raised 0)) None) None

-- the buffer with that word
unfoldable pub write_glance_buffer : Transfer → ℕ → List ℕ → ℕ → List ℕ
write_glance_buffer t word b w = pick (takes_in t) (pick (ltb word 255) (word_put b word w) b) b

-- Status, where DEV leaves it to this device
unfoldable pub status_glance : Hot → ℕ → Bool → Option Shown
status_glance h word raised = pick (dev_set h) None (Some (shows word raised (status_of h)))

-- Status, which clears the interrupt, and Alternate Status, which does not
unfoldable pub register_glance : Hot → ℕ → Bool → ℕ → Option Shown
register_glance h word raised n =
    pick (eqb n 7) (status_glance h word false)
    (pick (eqb n 8) (status_glance h word raised) None)

-- the action on the hot part, whose next word's place and interrupt are these
unfoldable pub glance_of : Hot → ℕ → Bool → List ℕ → Action → Option Shown
glance_of h word raised b (ReadRegister n) = register_glance h word raised n
glance_of h word raised b (WriteRegister n v) = None
glance_of h word raised b ReadWord = read_glance h.transfer word raised b
glance_of h word raised b (WriteWord w) = write_glance h.transfer word raised
glance_of h word raised b HardwareReset = None
glance_of h word raised b PowerOn = None
glance_of h word raised b Line = Some (shows word raised (line_of (with_interrupt h raised)))

-- and what it leaves in the buffer
unfoldable pub glance_buffer : Hot → ℕ → List ℕ → Action → List ℕ
glance_buffer h word b (ReadRegister n) = b
glance_buffer h word b (WriteRegister n v) = b
glance_buffer h word b ReadWord = b
glance_buffer h word b (WriteWord w) = write_glance_buffer h.transfer word b w
glance_buffer h word b HardwareReset = b
glance_buffer h word b PowerOn = b
glance_buffer h word b Line = b
