-- The fast path is the action: whatever the hot part and the buffer settle, the word-by-word definition gives, for every disk and action.
use mathlib.Core.Path.{◌≡◌, refl}
use mathlib.Core.List.{List}
use Prim.Native.Nat.{ℕ}
use lib.Dec.{ltb}
use Rattle.base.specs.Choice.{within}
use Rattle.base.proofs.Tests.{either_way}
use Rattle.lock.specs.declared.Secrets.{Secrets}
use Rattle.fastpath.specs.Quick.{quick_read_of, quick_write_of, quick_write_buffer, quick_put_of, quick_of, quick_buffer}
use Rattle.face.specs.declared.Face.{Face}
use Rattle.face.specs.declared.Run.{Run}
use Rattle.face.specs.declared.Transfer.{Transfer}
use Rattle.face.specs.declared.Transfer.TheVariants.{Idle, Reading, Writing, ReadingBuffer, WritingBuffer, TakingPassword}
use Rattle.face.specs.declared.Action.{Action}
use Rattle.face.specs.declared.Action.TheVariants.{ReadRegister, WriteRegister, ReadWord, WriteWord, HardwareReset, PowerOn, Line}
use Rattle.transfers.specs.Words.{read_buffer_word, write_buffer_word}
use Rattle.reading.specs.Words.{read_word_as, read_word_of, read_run_of}
use Rattle.writing.specs.Words.{write_run_of, write_run_sectors}
use Rattle.effects.specs.Effects.{effect}
use Rattle.password.proofs.FastWord.{quick_then, quick_password}
use Rattle.disk.specs.Actions.{told_acted, write_register_of, write_word_as, write_word_of, act_of}

-- a data word read by the fast path where it settles it
abbrev ReadQuickly : Face → Secrets → List ℕ → Transfer → Type 0
ReadQuickly f x m t =
    effect (told_acted x (read_word_as f m t)) m
    ≡ quick_then f x m f.buffer (quick_read_of f.hot f.buffer t) (effect (told_acted x (read_word_as f m t)) m)

quick_reading : (f : Face) (x : Secrets) (m : List ℕ) (r : Run) → ReadQuickly f x m (Reading r)
unfolding quick_read_of read_run_of
quick_reading f x m r = either_way (ltb r.word 255) (λ e. simp e) (λ e. simp e)

quick_reading_buffer : (f : Face) (x : Secrets) (m : List ℕ) (n : ℕ) → ReadQuickly f x m (ReadingBuffer n)
unfolding quick_read_of read_buffer_word
quick_reading_buffer f x m n = either_way (ltb n 255) (λ e. simp e) (λ e. simp e)

quick_read : (f : Face) (x : Secrets) (m : List ℕ) (t : Transfer) → ReadQuickly f x m t
unfolding quick_read_of
quick_read f x m Idle = refl
quick_read f x m (Reading r) = quick_reading f x m r
quick_read f x m (Writing r) = refl
quick_read f x m (ReadingBuffer n) = quick_reading_buffer f x m n
quick_read f x m (WritingBuffer n) = refl
quick_read f x m (TakingPassword b) = refl

-- a data word written by the fast path where it settles it
abbrev WrittenQuickly : Face → Secrets → List ℕ → ℕ → Transfer → Type 0
WrittenQuickly f x m w t =
    write_word_as f x m w t
    ≡ quick_then f x m (quick_write_buffer f.buffer w t) (quick_write_of f.hot t) (write_word_as f x m w t)

quick_writing : (f : Face) (x : Secrets) (m : List ℕ) (w : ℕ) (r : Run) → WrittenQuickly f x m w (Writing r)
unfolding quick_write_of quick_write_buffer write_run_of write_run_sectors
quick_writing f x m w r = either_way (ltb r.word 255) (λ e. simp e) (λ e. simp e)

quick_writing_buffer : (f : Face) (x : Secrets) (m : List ℕ) (w n : ℕ) → WrittenQuickly f x m w (WritingBuffer n)
unfolding quick_write_of quick_write_buffer write_buffer_word
quick_writing_buffer f x m w n = either_way (ltb n 255) (λ e. simp e) (λ e. simp e)

quick_write : (f : Face) (x : Secrets) (m : List ℕ) (w : ℕ) (t : Transfer) → WrittenQuickly f x m w t
unfolding quick_write_of quick_write_buffer
quick_write f x m w Idle = refl
quick_write f x m w (Reading r) = refl
quick_write f x m w (Writing r) = quick_writing f x m w r
quick_write f x m w (ReadingBuffer n) = refl
quick_write f x m w (WritingBuffer n) = quick_writing_buffer f x m w n
quick_write f x m w (TakingPassword p) = quick_password f x m w p

-- a write to a register by the fast path where it settles it
abbrev PutQuickly : Face → Secrets → List ℕ → ℕ → ℕ → Type 0
PutQuickly f x m n v =
    effect (told_acted x (write_register_of f m n v)) m
    ≡ quick_then f x m f.buffer (quick_put_of f.hot n v) (effect (told_acted x (write_register_of f m n v)) m)

quick_put : (f : Face) (x : Secrets) (m : List ℕ) (n v : ℕ) → PutQuickly f x m n v
unfolding quick_put_of write_register_of
quick_put f x m n v = either_way (within 1 6 n) (λ e. simp e) (λ e. simp e)

-- with no hypothesis at all
pub quick_act : (f : Face) (x : Secrets) (m : List ℕ) (a : Action)
    → act_of f x m a ≡ quick_then f x m (quick_buffer f.hot f.buffer a) (quick_of f.hot f.buffer a) (act_of f x m a)
unfolding act_of quick_of quick_buffer read_word_of write_word_of
quick_act f x m (ReadRegister n) = refl
quick_act f x m (WriteRegister n v) = quick_put f x m n v
quick_act f x m ReadWord = quick_read f x m f.hot.transfer
quick_act f x m (WriteWord w) = quick_write f x m w f.hot.transfer
quick_act f x m HardwareReset = refl
quick_act f x m PowerOn = refl
quick_act f x m Line = refl
