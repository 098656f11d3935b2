-- A glance is what the fast path settles, by cases on the action and the transfer; where it is beyond a glance, the buffer is left.
use Prim.Native.Nat.{ℕ, ◌+◌}
use mathlib.Core.Bool.{Bool, true, false}
use mathlib.Core.Path.{◌≡◌, refl, ap, ◌∙◌}
use mathlib.Core.List.{List}
use lib.Dec.{ltb, eqb}
use borrow.Author.Tests.{eqb-true}
use Rattle.std.specs.Prelude.{Option, Some, None}
use Rattle.base.specs.Choice.{pick}
use Rattle.base.proofs.Tests.{pick_both}
use Rattle.block.specs.Words.{word_at, word_put}
use Rattle.face.specs.declared.Shows.{Shows}
use Rattle.face.specs.Reads.{is_idle, seen, status_of, line_of, read_register}
use Rattle.face.specs.declared.Hot.{Hot}
use Rattle.face.specs.declared.Transfer.{Transfer}
use Rattle.face.specs.declared.Transfer.TheVariants.{Idle, Reading, Writing, ReadingBuffer, WritingBuffer, TakingPassword}
use Rattle.face.specs.declared.Action.{Action}
use Rattle.face.specs.declared.Action.TheVariants.{ReadRegister, WriteRegister, ReadWord, WriteWord, HardwareReset, PowerOn, Line}
use Rattle.face.specs.declared.Answer.TheVariants.{Done}
use Rattle.fastpath.specs.Quick.{quick_read_of, quick_write_of, quick_write_buffer, quick_of, quick_buffer}
use Rattle.fastpath.specs.Dev.{dev_set, unanswered_of, ignored_of, quick_alone, quick_alone_buffer}
use Rattle.glance.specs.Places.{place_of, placed_at, hot_with, hot_at}
use Rattle.glance.specs.Glances.{shows, takes_in, read_glance, write_glance, write_glance_buffer, status_glance, register_glance, glance_of, glance_buffer}
use Rattle.glance.specs.declared.Shown.{Shown}

-- what is held apart of a hot part and put back makes it again
pub hot_same : (h : Hot) → hot_at h (place_of h.transfer) h.signals.raised ≡ h
hot_same h = go h.transfer
  where
    go : (t : Transfer) → hot_with (record { regs = h.regs; signals = h.signals; transfer = t }) t (place_of t) h.signals.raised ≡ record { regs = h.regs; signals = h.signals; transfer = t }
    go Idle = refl
    go (Reading r) = refl
    go (Writing r) = refl
    go (ReadingBuffer n) = refl
    go (WritingBuffer n) = refl
    go (TakingPassword b) = refl

-- what a glance showed, put in place; else what the fast path gives
abbrev glance_then : Hot → Transfer → Option Shown → Option (Shows Hot) → Option (Shows Hot)
glance_then h t (Some s) quick = Some (seen (hot_with h t s.word s.raised) Done s.value)
glance_then h t None quick = quick

-- what is shown with None in the fast path's place holds with the fast path itself: a glance that shows needs neither
quick_again : (q : Option (Shows Hot)) (h : Hot) (t : Transfer) (g : Option Shown) → q ≡ glance_then h t g None → q ≡ glance_then h t g q
quick_again q h t (Some s) e = e
quick_again q h t None e = refl

-- a word that is not its block's last, which `x` says
glance_word : (x : Bool) (h : Hot) (t : Transfer) (word : ℕ) (raised : Bool) (v : ℕ)
    → pick x (Some (seen (hot_with h t (word + 1) raised) Done v)) None ≡ glance_then h t (pick x (Some (shows (word + 1) raised v)) None) None
glance_word true h t word raised v = refl
glance_word false h t word raised v = refl

glance_read : (h : Hot) (t : Transfer) (word : ℕ) (raised : Bool) (b : List ℕ)
    → quick_read_of (hot_with h t word raised) b (placed_at t word) ≡ glance_then h t (read_glance t word raised b) None
unfolding quick_read_of read_glance
glance_read h Idle word raised b = refl
glance_read h (Reading r) word raised b = glance_word (ltb word 255) h (Reading r) word raised (word_at b word)
glance_read h (Writing r) word raised b = refl
glance_read h (ReadingBuffer n) word raised b = glance_word (ltb word 255) h (ReadingBuffer n) word raised (word_at b word)
glance_read h (WritingBuffer n) word raised b = refl
glance_read h (TakingPassword p) word raised b = refl

glance_write : (h : Hot) (t : Transfer) (word : ℕ) (raised : Bool)
    → quick_write_of (hot_with h t word raised) (placed_at t word) ≡ glance_then h t (write_glance t word raised) None
unfolding quick_write_of write_glance
glance_write h Idle word raised = refl
glance_write h (Reading r) word raised = refl
glance_write h (Writing r) word raised = glance_word (ltb word 255) h (Writing r) word raised 0
glance_write h (ReadingBuffer n) word raised = refl
glance_write h (WritingBuffer n) word raised = glance_word (ltb word 255) h (WritingBuffer n) word raised 0
glance_write h (TakingPassword p) word raised = glance_word (ltb word 255) h (TakingPassword p) word raised 0

idle_placed : (t : Transfer) (word : ℕ) → is_idle (placed_at t word) ≡ is_idle t
idle_placed Idle word = refl
idle_placed (Reading r) word = refl
idle_placed (Writing r) word = refl
idle_placed (ReadingBuffer n) word = refl
idle_placed (WritingBuffer n) word = refl
idle_placed (TakingPassword b) word = refl

status_same : (h : Hot) (word : ℕ) (raised : Bool) → status_of (hot_at h word raised) ≡ status_of h
unfolding status_of
status_same h word raised = ap (λ (x : Bool). pick h.signals.held 0x80 (pick x (pick h.signals.failed 0x51 0x50) 0x58)) (idle_placed h.transfer word)

dev_same : (h : Hot) (word : ℕ) (raised : Bool) → dev_set (hot_at h word raised) ≡ dev_set h
unfolding dev_set
dev_same h word raised = refl

-- a read of Status or Alternate Status, after which the interrupt is `after`
glance_status : (h : Hot) (word : ℕ) (raised : Bool) (b : List ℕ) (n : ℕ) (after : Bool)
    → unanswered_of (ReadRegister n) ≡ true → read_register (hot_at h word raised) n ≡ seen (hot_at h word after) Done (status_of (hot_at h word raised))
    → quick_alone (hot_at h word raised) b (ReadRegister n)
    ≡ glance_then h h.transfer (status_glance h word after) (quick_alone (hot_at h word raised) b (ReadRegister n))
unfolding quick_alone ignored_of quick_of status_glance
glance_status h word raised b n after u e = go (dev_set h) refl
  where
    go : (x : Bool) → dev_set h ≡ x
        → quick_alone (hot_at h word raised) b (ReadRegister n)
        ≡ glance_then h h.transfer (status_glance h word after) (quick_alone (hot_at h word raised) b (ReadRegister n))
    go true d = simp d
    go false d = simp (u, dev_same h word raised, d, e, status_same h word raised)

glance_register : (h : Hot) (word : ℕ) (raised : Bool) (b : List ℕ) (n : ℕ)
    → quick_alone (hot_at h word raised) b (ReadRegister n)
    ≡ glance_then h h.transfer (register_glance h word raised n) (quick_alone (hot_at h word raised) b (ReadRegister n))
unfolding register_glance read_register
glance_register h word raised b n = go (eqb n 7) (eqb n 8) refl refl
  where
    go : (x y : Bool) → eqb n 7 ≡ x → eqb n 8 ≡ y
        → quick_alone (hot_at h word raised) b (ReadRegister n)
        ≡ glance_then h h.transfer (register_glance h word raised n) (quick_alone (hot_at h word raised) b (ReadRegister n))
    go true y e f = let q : n ≡ 7 = eqb-true n 7 e in rw q (glance_status h word raised b 7 false refl refl)
    go false true e f = let q : n ≡ 8 = eqb-true n 8 f in rw q (glance_status h word raised b 8 raised refl refl)
    go false false e f = simp (e, f)

-- with no hypothesis at all
glance_quick : (h : Hot) (word : ℕ) (raised : Bool) (b : List ℕ) (a : Action)
    → quick_alone (hot_at h word raised) b a ≡ glance_then h h.transfer (glance_of h word raised b a) (quick_alone (hot_at h word raised) b a)
unfolding quick_alone ignored_of quick_of glance_of line_of
glance_quick h word raised b (ReadRegister n) = glance_register h word raised b n
glance_quick h word raised b (WriteRegister n v) = refl
glance_quick h word raised b ReadWord = quick_again (quick_read_of (hot_at h word raised) b (hot_at h word raised).transfer) h h.transfer (read_glance h.transfer word raised b) (glance_read h h.transfer word raised b)
glance_quick h word raised b (WriteWord w) = quick_again (quick_write_of (hot_at h word raised) (hot_at h word raised).transfer) h h.transfer (write_glance h.transfer word raised) (glance_write h h.transfer word raised)
glance_quick h word raised b HardwareReset = refl
glance_quick h word raised b PowerOn = refl
glance_quick h word raised b Line = refl

-- the fast path where a glance shows the action
pub glance_settles : (h : Hot) (word : ℕ) (raised : Bool) (b : List ℕ) (a : Action) (s : Shown)
    → glance_of h word raised b a ≡ Some s → quick_alone (hot_at h word raised) b a ≡ Some (seen (hot_at h s.word s.raised) Done s.value)
glance_settles h word raised b a s e =
    glance_quick h word raised b a ∙ ap (λ (g : Option Shown). glance_then h h.transfer g (quick_alone (hot_at h word raised) b a)) e

-- ---- the buffer

write_buffer : (t : Transfer) (word : ℕ) (b : List ℕ) (w : ℕ) → write_glance_buffer t word b w ≡ quick_write_buffer b w (placed_at t word)
unfolding write_glance_buffer quick_write_buffer
write_buffer Idle word b w = refl
write_buffer (Reading r) word b w = refl
write_buffer (Writing r) word b w = refl
write_buffer (ReadingBuffer n) word b w = refl
write_buffer (WritingBuffer n) word b w = refl
write_buffer (TakingPassword p) word b w = refl

-- a glance leaves the buffer as the fast path does
pub glance_buffer_law : (h : Hot) (word : ℕ) (raised : Bool) (b : List ℕ) (a : Action) → glance_buffer h word b a ≡ quick_alone_buffer (hot_at h word raised) b a
unfolding quick_alone_buffer ignored_of quick_buffer glance_buffer
glance_buffer_law h word raised b (ReadRegister n) = pick_both (λ (x : List ℕ). b ≡ x) (ignored_of (hot_at h word raised) (ReadRegister n)) b b refl refl
glance_buffer_law h word raised b (WriteRegister n v) = pick_both (λ (x : List ℕ). b ≡ x) (ignored_of (hot_at h word raised) (WriteRegister n v)) b b refl refl
glance_buffer_law h word raised b ReadWord = refl
glance_buffer_law h word raised b (WriteWord w) = write_buffer h.transfer word b w
glance_buffer_law h word raised b HardwareReset = refl
glance_buffer_law h word raised b PowerOn = refl
glance_buffer_law h word raised b Line = refl

-- an action beyond a glance has left the buffer
abbrev beyond_leaves : Option Shown → List ℕ → List ℕ → List ℕ
beyond_leaves (Some s) b changed = changed
beyond_leaves None b changed = b

same_leaves : (g : Option Shown) (b : List ℕ) → b ≡ beyond_leaves g b b
same_leaves (Some s) b = refl
same_leaves None b = refl

write_leaves : (t : Transfer) (word : ℕ) (raised : Bool) (b : List ℕ) (w : ℕ)
    → write_glance_buffer t word b w ≡ beyond_leaves (write_glance t word raised) b (write_glance_buffer t word b w)
unfolding write_glance write_glance_buffer
write_leaves t word raised b w = go (takes_in t) (ltb word 255)
  where
    go : (x y : Bool) → pick x (pick y (word_put b word w) b) b
        ≡ beyond_leaves (pick x (pick y (Some (shows (word + 1) raised 0)) None) None) b (pick x (pick y (word_put b word w) b) b)
    go true true = refl
    go true false = refl
    go false y = refl

leaves : (h : Hot) (word : ℕ) (raised : Bool) (b : List ℕ) (a : Action)
    → glance_buffer h word b a ≡ beyond_leaves (glance_of h word raised b a) b (glance_buffer h word b a)
unfolding glance_of glance_buffer
leaves h word raised b (ReadRegister n) = same_leaves (register_glance h word raised n) b
leaves h word raised b (WriteRegister n v) = refl
leaves h word raised b ReadWord = same_leaves (read_glance h.transfer word raised b) b
leaves h word raised b (WriteWord w) = write_leaves h.transfer word raised b w
leaves h word raised b HardwareReset = refl
leaves h word raised b PowerOn = refl
leaves h word raised b Line = refl

pub glance_leaves : (h : Hot) (word : ℕ) (raised : Bool) (b : List ℕ) (a : Action) → glance_of h word raised b a ≡ None → glance_buffer h word b a ≡ b
glance_leaves h word raised b a e = leaves h word raised b a ∙ ap (λ (g : Option Shown). beyond_leaves g b (glance_buffer h word b a)) e
