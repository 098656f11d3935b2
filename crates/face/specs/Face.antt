-- The parts of the face, each with one part changed.
use Rattle.std.specs.Prelude.{ℕ, ◌+◌, Bool, false, List}
use Rattle.settled.specs.declared.Settled.{Settled}
use Rattle.face.specs.Registers.{start_registers}
use Rattle.face.specs.declared.Registers.{Registers}
use Rattle.face.specs.declared.Signals.{Signals}
use Rattle.face.specs.declared.Run.{Run}
use Rattle.face.specs.declared.PasswordBlock.{PasswordBlock}
use Rattle.face.specs.declared.Transfer.{Transfer}
use Rattle.face.specs.declared.Transfer.TheVariants.{Idle}
use Rattle.face.specs.declared.Hot.{Hot}
use Rattle.face.specs.declared.Face.{Face}

-- "interrupt and Device Control cleared", and no command has failed
abbrev pub no_signals : Signals
no_signals = record { held = false; masked = false; raised = false; failed = false }

-- what power-on leaves of registers, signals and transfer: "registers to their start values .. transfer dropped"
abbrev pub start_hot : Hot
start_hot = record { regs = start_registers; signals = no_signals; transfer = Idle }

-- with another reset held or not
abbrev pub with_held : Signals → Bool → Signals
with_held s b = record { held = b; masked = s.masked; raised = s.raised; failed = s.failed }

-- with another nIEN
abbrev pub with_masked : Signals → Bool → Signals
with_masked s b = record { held = s.held; masked = b; raised = s.raised; failed = s.failed }

-- with the interrupt raised or cleared
abbrev pub with_raised : Signals → Bool → Signals
with_raised s b = record { held = s.held; masked = s.masked; raised = b; failed = s.failed }

-- with the last command failed or not
abbrev pub with_failed : Signals → Bool → Signals
with_failed s b = record { held = s.held; masked = s.masked; raised = s.raised; failed = b }

-- with other registers
abbrev pub with_regs : Hot → Registers → Hot
with_regs h r = record { regs = r; signals = h.signals; transfer = h.transfer }

-- with other signals
abbrev pub with_signals : Hot → Signals → Hot
with_signals h s = record { regs = h.regs; signals = s; transfer = h.transfer }

-- with another transfer
abbrev pub with_transfer : Hot → Transfer → Hot
with_transfer h t = record { regs = h.regs; signals = h.signals; transfer = t }

-- a face of these parts
abbrev pub face_with : Hot → Settled → List ℕ → Face
face_with h s b = record { hot = h; settled = s; buffer = b }

-- with another hot part
abbrev pub with_hot : Face → Hot → Face
with_hot f h = record { hot = h; settled = f.settled; buffer = f.buffer }

-- no transfer
abbrev pub idle_face : Face → Face
idle_face f = with_hot f (with_transfer f.hot Idle)

-- with another settled part
abbrev pub with_settled : Face → Settled → Face
with_settled f s = record { hot = f.hot; settled = s; buffer = f.buffer }

-- with another buffer
abbrev pub with_buffer : Face → List ℕ → Face
with_buffer f b = record { hot = f.hot; settled = f.settled; buffer = b }

-- the next word of a sector
abbrev pub next_word : Run → Run
next_word r = record { at = r.at; after = r.after; word = r.word + 1 }

-- the next word of a password block
abbrev pub next_password_word : PasswordBlock → PasswordBlock
next_password_word b = record { purpose = b.purpose; word = b.word + 1 }
