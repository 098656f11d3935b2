-- Words read a block at a time are single reads: word by word up to the block's last, then what that one leaves.
use mathlib.Core.Path.{◌≡◌, refl, sym, ap, ◌∙◌}
use mathlib.Core.Bool.{Bool, true, false}
use mathlib.Core.List.{List, [], ◌∷◌, ◌++◌, append_assoc}
use Prim.Native.Nat.{ℕ, zero, suc, ◌+◌, ◌-◌, ◌≤◌, ◌<◌}
use native.Mathlib.Nat.{zero-add, suc-add}
use native.Mathlib.Omega.{arith}
use lib.Dec.{eqb, ltb}
use borrow.Author.Tests.{lt-ltb, ltb-true, ltb-false}
use Rattle.base.specs.Choice.{pick}
use Rattle.base.proofs.Tests.{either_way, false≢true}
use Rattle.lock.specs.declared.Secrets.{Secrets}
use Rattle.settled.specs.declared.Settled.{Settled}
use Rattle.address.specs.declared.Address.{Address}
use Rattle.address.specs.declared.Address.TheVariants.{Names, Faults}
use Rattle.block.specs.Words.{word_at}
use Rattle.face.specs.Face.{face_with, with_transfer}
use Rattle.face.specs.Reads.{seen}
use Rattle.face.specs.declared.Hot.{Hot}
use Rattle.face.specs.declared.Run.{Run}
use Rattle.face.specs.declared.Face.{Face}
use Rattle.face.specs.declared.Transfer.{Transfer}
use Rattle.face.specs.declared.Transfer.TheVariants.{Idle, Reading, Writing, ReadingBuffer, WritingBuffer, TakingPassword}
use Rattle.face.specs.declared.Answer.TheVariants.{Done}
use Rattle.face.specs.declared.Action.TheVariants.{ReadWord}
use Rattle.fastpath.specs.Dev.{ignored_of}
use Rattle.transfers.specs.Sectors.{located, next_run, not_found_of}
use Rattle.transfers.specs.Words.{read_buffer_word}
use Rattle.reading.specs.Sectors.{read_as, read_at}
use Rattle.reading.specs.Words.{read_ends, read_next_of, read_run_of, read_word_as, read_word_of}
use Rattle.effects.specs.Effects.{effect}
use Rattle.disk.specs.Actions.{told_acted, act_of}
use Rattle.device.specs.Alone.{Step, device_of, outcome, step_as, alone_of}
use Rattle.device.specs.declared.Device.{Device}
use Rattle.device.proofs.FastStep.{quick_settles}
use Rattle.laws.specs.Sessions.{Rules}
use Rattle.laws.proofs.ReadBack.{words_from}
use Rattle.glance.specs.Places.{place_of, run_placed_at, placed_at, hot_at}
use Rattle.glance.specs.Glances.{shows, hands_out, read_glance, glance_of, glance_buffer}
use Rattle.glance.proofs.Glancing.{hot_same, glance_settles, glance_buffer_law}
use Rattle.words.specs.Words.{Handed, hands_none, hands_first, read_words_of}
use Rattle.words.specs.Blocks.{face_at, read_up_to}
use Rattle.words.specs.Bulk.{device_with}

-- words, and those behind them
abbrev pub hands_behind : List ℕ → Handed → Handed
hands_behind l h = record { words = l ++ h.words; device = h.device; sectors = h.sectors }

-- a step that is done
abbrev pub word_done : Device → List ℕ → ℕ → Step
word_done d m v = record { outcome = outcome d Done v; sectors = m }

-- ---- single words

-- a word that passes
reads_first : (r : Rules) (n : ℕ) (d : Device) (m : List ℕ) (e : Device) (q : List ℕ) (v : ℕ) → r d m ReadWord ≡ word_done e q v
    → read_words_of r (suc n) d m ≡ hands_behind (v ∷ []) (read_words_of r n e q)
unfolding read_words_of
reads_first r n d m e q v k =
    ap (λ (s : Step). pick (eqb s.outcome.number 0) (hands_first s (read_words_of r n s.outcome.device s.sectors)) (hands_none d m)) k

-- a word that is not its block's last
word_on : (h : Hot) (s : Settled) (b : List ℕ) (x : Secrets) (m : List ℕ) (p : ℕ) (raised : Bool) → hands_out h.transfer ≡ true → p < 255
    → alone_of (device_with (hot_at h p raised) s b x) m ReadWord ≡ word_done (device_with (hot_at h (p + 1) raised) s b x) m (word_at b p)
unfolding glance_of read_glance glance_buffer
word_on h s b x m p raised o l =
    quick_settles (device_with (hot_at h p raised) s b x) m ReadWord b (seen (hot_at h (p + 1) raised) Done (word_at b p))
    (glance_settles h p raised b ReadWord (shows (p + 1) raised (word_at b p)) (simp (o, lt-ltb p 255 l)))
    (glance_buffer_law h p raised b ReadWord)

-- so many of them
words_on : (h : Hot) (s : Settled) (b : List ℕ) (x : Secrets) (m : List ℕ) (raised : Bool) → hands_out h.transfer ≡ true
    → (k n p : ℕ) → p + k ≤ 255
    → read_words_of alone_of (k + n) (device_with (hot_at h p raised) s b x) m
    ≡ hands_behind (words_from b p k) (read_words_of alone_of n (device_with (hot_at h (p + k) raised) s b x) m)
unfolding words_from
words_on h s b x m raised o zero n p l =
    let e : p ≡ p + 0 = omega arith in
    ap (λ (i : ℕ). read_words_of alone_of i (device_with (hot_at h p raised) s b x) m) (zero-add n)
    ∙ ap (λ (i : ℕ). hands_behind [] (read_words_of alone_of n (device_with (hot_at h i raised) s b x) m)) e
words_on h s b x m raised o (suc k) n p l =
    let e : p + 1 + k ≡ p + suc k = omega arith in
    ap (λ (i : ℕ). read_words_of alone_of i (device_with (hot_at h p raised) s b x) m) (suc-add k n)
    ∙ reads_first alone_of (k + n) (device_with (hot_at h p raised) s b x) m _ _ _ (word_on h s b x m p raised o (omega arith))
    ∙ ap (hands_behind (word_at b p ∷ [])) (words_on h s b x m raised o k n (p + 1) (omega arith))
    ∙ ap (λ (i : ℕ). hands_behind (word_at b p ∷ words_from b (p + 1) k) (read_words_of alone_of n (device_with (hot_at h i raised) s b x) m)) e

-- ---- a block's last word

-- a sector is reached whatever the transfer was
reached_same : (h : Hot) (s : Settled) (b m : List ℕ) (t : Transfer) (r : Run) (a : Address)
    → read_as (face_with (with_transfer h t) s b) m r a ≡ read_as (face_with h s b) m r a
unfolding not_found_of
reached_same h s b m t r (Names y) = refl
reached_same h s b m t r Faults = refl

next_same : (h : Hot) (s : Settled) (b m : List ℕ) (t : Transfer) (r : Run)
    → read_next_of (face_with (with_transfer h t) s b) m r ≡ read_next_of (face_with h s b) m r
unfolding read_next_of read_at
next_same h s b m t r =
    ap (λ (f : Face). pick (ltb 0 r.after) f (read_ends (face_with h s b) r))
    (reached_same h s b m t (next_run r s.translation) (located s (next_run r s.translation).at))

-- the last word of a block, wherever in it the hot part stood
word_last : (h : Hot) (s : Settled) (b : List ℕ) (x : Secrets) (m : List ℕ) (t : Transfer) → hands_out t ≡ true
    → step_as (effect (told_acted x (read_word_as (face_with (with_transfer h (placed_at t 255)) s b) m (placed_at t 255))) m)
    ≡ word_done (device_of (read_word_as (face_with h s b) m (placed_at t 255)).left x) m (word_at b 255)
unfolding read_run_of read_buffer_word
word_last h s b x m Idle o = absurd (false≢true o)
word_last h s b x m (Reading r) o = ap (λ (f : Face). word_done (device_of f x) m (word_at b 255)) (next_same h s b m (placed_at (Reading r) 255) (run_placed_at r 255))
word_last h s b x m (Writing r) o = absurd (false≢true o)
word_last h s b x m (ReadingBuffer n) o = refl
word_last h s b x m (WritingBuffer n) o = absurd (false≢true o)
word_last h s b x m (TakingPassword p) o = absurd (false≢true o)

last_step_law : (h : Hot) (s : Settled) (b : List ℕ) (x : Secrets) (m : List ℕ) → hands_out h.transfer ≡ true
    → alone_of (device_with (hot_at h 255 h.signals.raised) s b x) m ReadWord
    ≡ word_done (device_of (read_up_to (face_with h s b) m 256) x) m (word_at b 255)
unfolding alone_of ignored_of act_of read_word_of read_up_to
last_step_law h s b x m o = word_last h s b x m h.transfer o

-- ---- words of a block

from_last : (b : List ℕ) (k p : ℕ) → words_from b p (suc k) ≡ words_from b p k ++ (word_at b (p + k) ∷ [])
unfolding words_from
from_last b zero p = let e : p ≡ p + 0 = omega arith in ap (λ (i : ℕ). word_at b i ∷ []) e
from_last b (suc k) p =
    let e : p + 1 + k ≡ p + suc k = omega arith in
    ap (λ (l : List ℕ). word_at b p ∷ l) (from_last b k (p + 1) ∙ ap (λ (i : ℕ). words_from b (p + 1) k ++ (word_at b i ∷ [])) e)

pub behind_behind : (l q : List ℕ) (h : Handed) → hands_behind l (hands_behind q h) ≡ hands_behind (l ++ q) h
behind_behind l q h = ap (λ (w : List ℕ). record { words = w; device = h.device; sectors = h.sectors }) (sym (append_assoc l q h.words))

-- from where the transfer stands up to a place in the block
words_within : (h : Hot) (s : Settled) (b : List ℕ) (x : Secrets) (m : List ℕ) → hands_out h.transfer ≡ true
    → (k n p : ℕ) → p ≡ place_of h.transfer → p + k ≤ 255
    → read_words_of alone_of (k + n) (device_with h s b x) m
    ≡ hands_behind (words_from b p k) (read_words_of alone_of n (device_with (hot_at h (p + k) h.signals.raised) s b x) m)
words_within h s b x m o k n p e g =
    ap (λ (i : Hot). read_words_of alone_of (k + n) (device_with i s b x) m) (sym (ap (λ (i : ℕ). hot_at h i h.signals.raised) e ∙ hot_same h))
    ∙ words_on h s b x m h.signals.raised o k n p g

-- and behind its last word
words_whole : (h : Hot) (s : Settled) (b : List ℕ) (x : Secrets) (m : List ℕ) → hands_out h.transfer ≡ true
    → (k n p : ℕ) → p ≡ place_of h.transfer → p + k ≡ 255
    → read_words_of alone_of (k + suc n) (device_with h s b x) m
    ≡ hands_behind (words_from b p (suc k)) (read_words_of alone_of n (device_of (read_up_to (face_with h s b) m 256) x) m)
words_whole h s b x m o k n p e g =
    words_within h s b x m o k (suc n) p e (omega arith)
    ∙ ap (λ (i : ℕ). hands_behind (words_from b p k) (read_words_of alone_of (suc n) (device_with (hot_at h i h.signals.raised) s b x) m)) g
    ∙ ap (hands_behind (words_from b p k)) (reads_first alone_of n (device_with (hot_at h 255 h.signals.raised) s b x) m _ _ _ (last_step_law h s b x m o))
    ∙ behind_behind (words_from b p k) (word_at b 255 ∷ []) (read_words_of alone_of n (device_of (read_up_to (face_with h s b) m 256) x) m)
    ∙ ap (λ (l : List ℕ). hands_behind l (read_words_of alone_of n (device_of (read_up_to (face_with h s b) m 256) x) m))
    (ap (λ (i : ℕ). words_from b p k ++ (word_at b i ∷ [])) (sym g) ∙ sym (from_last b k p))

-- either
pub read_up_to_law : (h : Hot) (s : Settled) (b : List ℕ) (x : Secrets) (m : List ℕ) → hands_out h.transfer ≡ true
    → (k n p : ℕ) → p ≡ place_of h.transfer → p < 256 → p + k ≤ 256
    → read_words_of alone_of (k + n) (device_with h s b x) m
    ≡ hands_behind (words_from b p k) (read_words_of alone_of n (device_of (read_up_to (face_with h s b) m (p + k)) x) m)
unfolding read_up_to
read_up_to_law h s b x m o k n p e l g = either_way (ltb (p + k) 256) within whole
  where
    within : ltb (p + k) 256 ≡ true
        → read_words_of alone_of (k + n) (device_with h s b x) m
        ≡ hands_behind (words_from b p k) (read_words_of alone_of n (device_of (read_up_to (face_with h s b) m (p + k)) x) m)
    within q =
        let i = ltb-true (p + k) 256 q in
        words_within h s b x m o k n p e (omega arith)
        ∙ ap (λ (y : Bool). hands_behind (words_from b p k) (read_words_of alone_of n (device_of (pick y (face_at (face_with h s b) (p + k)) (read_word_as (face_with h s b) m (placed_at h.transfer 255)).left) x) m)) (sym q)

    whole : ltb (p + k) 256 ≡ false
        → read_words_of alone_of (k + n) (device_with h s b x) m
        ≡ hands_behind (words_from b p k) (read_words_of alone_of n (device_of (read_up_to (face_with h s b) m (p + k)) x) m)
    whole q =
        let i = ltb-false (p + k) 256 q in
        let j : p + (k - 1) ≡ 255 = omega arith in
        let c : k ≡ suc (k - 1) = omega arith in
        let a : k + n ≡ k - 1 + suc n = omega arith in
        let z : 256 ≡ p + k = omega arith in
        ap (λ (y : ℕ). read_words_of alone_of y (device_with h s b x) m) a
        ∙ words_whole h s b x m o (k - 1) n p e j
        ∙ ap (λ (y : ℕ). hands_behind (words_from b p y) (read_words_of alone_of n (device_of (read_up_to (face_with h s b) m 256) x) m)) (sym c)
        ∙ ap (λ (y : ℕ). hands_behind (words_from b p k) (read_words_of alone_of n (device_of (read_up_to (face_with h s b) m y) x) m)) z

-- ---- where no word is handed out

refused : (d : Device) (m : List ℕ) (t : Transfer) → hands_out t ≡ false → eqb (step_as (effect (told_acted d.secrets (read_word_as d.face m t)) m)).outcome.number 0 ≡ false
refused d m Idle o = refl
refused d m (Reading r) o = absurd (false≢true (sym o))
refused d m (Writing r) o = refl
refused d m (ReadingBuffer n) o = absurd (false≢true (sym o))
refused d m (WritingBuffer n) o = refl
refused d m (TakingPassword p) o = refl

pub reads_none : (n : ℕ) (d : Device) (m : List ℕ) → hands_out d.face.hot.transfer ≡ false → read_words_of alone_of n d m ≡ hands_none d m
unfolding read_words_of alone_of ignored_of act_of read_word_of
reads_none zero d m o = refl
reads_none (suc n) d m o = rw (refused d m d.face.hot.transfer o)
