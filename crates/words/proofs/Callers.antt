-- For who calls write_words: what is still to come where it stopped, and that a device in shape over its memory does the same by the host's rules.
use mathlib.Core.Path.{◌≡◌, refl, sym, ap, subst, ◌∙◌}
use mathlib.Core.Bool.{Bool, true, false}
use mathlib.Core.List.{List, [], ◌∷◌}
use Prim.Native.Nat.{ℕ, zero, suc, ◌+◌, ◌*◌, ◌/◌, ◌≤◌, ◌<◌}
use native.Mathlib.Omega.{arith}
use lib.Dec.{eqb, ltb}
use lib.ListN.{length, get_or, drop, drop_of_length-le}
use lib.Seq.{drop-cons}
use borrow.Author.Tests.{eqb-true}
use Rattle.base.specs.Choice.{pick}
use Rattle.base.proofs.Tests.{either_way, pick_each, false≢true}
use Rattle.judging.specs.declared.Verdict.{Verdict}
use Rattle.judging.specs.declared.Verdict.TheVariants.{EndsWell, Aborts, Erases}
use Rattle.lock.specs.declared.Secrets.{Secrets}
use Rattle.settled.specs.declared.Settled.{Settled}
use Rattle.face.specs.declared.Hot.{Hot}
use Rattle.face.specs.declared.Face.{Face}
use Rattle.face.specs.declared.PasswordBlock.{PasswordBlock}
use Rattle.face.specs.declared.Transfer.{Transfer}
use Rattle.face.specs.declared.Transfer.TheVariants.{Idle, Reading, Writing, ReadingBuffer, WritingBuffer, TakingPassword}
use Rattle.face.specs.declared.Action.{Action}
use Rattle.face.specs.declared.Action.TheVariants.{ReadWord, WriteWord}
use Rattle.fastpath.specs.Dev.{ignored_of}
use Rattle.transfers.specs.Words.{word_in}
use Rattle.password.specs.Passwords.{ended_as, judgement_of, password_ended, password_last, password_word}
use Rattle.disk.specs.Actions.{write_word_as, write_word_of, act_of}
use Rattle.device.specs.Alone.{Step, step_as, alone_of}
use Rattle.device.specs.Host.{Ready, step_of}
use Rattle.device.specs.declared.Device.{Device}
use Rattle.laws.proofs.Steps.{ready_step, ready_after}
use Rattle.laws.proofs.Lengths.{Whole, step_whole}
use Rattle.block.specs.Words.{word_at}
use Rattle.glance.specs.Glances.{takes_in}
use Rattle.words.specs.Words.{Handed, hands_none, hands_first, read_words_of, Taken, takes_none, taken_behind, write_words_of, words_in}
use Rattle.words.specs.Blocks.{takes_here}
use Rattle.words.specs.Bulk.{device_with, here_of, Writes}
use Rattle.words.specs.declared.Passed.{Passed}
use Rattle.words.proofs.Bytes.{words_length}
use Rattle.words.proofs.AsSessions.{WritesAs, writes_session}
use Rattle.words.proofs.BulkWrites.{taken_behind_law, behind_none, here_step}

-- one word, or none where it is turned away
abbrev pub takes_one : Device → List ℕ → Step → Taken
takes_one d m s = pick (eqb s.outcome.number 0) (record { count = 1; device = s.outcome.device; sectors = s.sectors }) (takes_none d m)

-- ---- where no word is taken in here

-- a word where no transfer takes it
pub word_refused_law : (f : Face) (x : Secrets) (m : List ℕ) (w : ℕ) (t : Transfer) → takes_in t ≡ false → eqb (step_as (write_word_as f x m w t)).outcome.number 0 ≡ false
word_refused_law f x m w Idle e = refl
word_refused_law f x m w (Reading r) e = refl
word_refused_law f x m w (Writing r) e = absurd (false≢true (sym e))
word_refused_law f x m w (ReadingBuffer n) e = refl
word_refused_law f x m w (WritingBuffer n) e = absurd (false≢true (sym e))
word_refused_law f x m w (TakingPassword b) e = absurd (false≢true (sym e))

writes_none : (l : List ℕ) (d : Device) (m : List ℕ) → takes_in d.face.hot.transfer ≡ false → write_words_of alone_of l d m ≡ takes_none d m
unfolding write_words_of alone_of ignored_of act_of write_word_of
writes_none [] d m e = refl
writes_none (w ∷ l) d m e = rw (word_refused_law d.face d.secrets m w d.face.hot.transfer e)

-- ---- a password block's last word

-- a judged block leaves no transfer that takes words
judged_takes : (f : Face) (v : Verdict) → takes_in (ended_as f v).hot.transfer ≡ false
judged_takes f EndsWell = refl
judged_takes f Aborts = refl
judged_takes f Erases = refl

-- behind it no further word is taken
last_judged : (f : Face) (x : Secrets) (m : List ℕ) (w : ℕ) (b : PasswordBlock) → ltb b.word 255 ≡ false
    → takes_in (step_as (write_word_as f x m w (TakingPassword b))).outcome.device.face.hot.transfer ≡ false
unfolding password_word password_last
last_judged f x m w b e = rw e (judged_takes (password_ended (word_in f b.word w) (judgement_of (word_in f b.word w) x b.purpose).security) (judgement_of (word_in f b.word w) x b.purpose).verdict)

-- ---- the word at which write_words stops

-- a step that is not done, or behind which no word is taken, is all that single writes come to
only_one : (w : ℕ) (l : List ℕ) (d : Device) (m : List ℕ)
    → ((alone_of d m (WriteWord w)).outcome.number ≡ 0 → takes_in (alone_of d m (WriteWord w)).outcome.device.face.hot.transfer ≡ false)
    → write_words_of alone_of (w ∷ l) d m ≡ takes_one d m (alone_of d m (WriteWord w))
unfolding write_words_of
only_one w l d m h = go (eqb (alone_of d m (WriteWord w)).outcome.number 0) refl
  where
    go : (y : Bool) → eqb (alone_of d m (WriteWord w)).outcome.number 0 ≡ y
        → pick y (taken_behind 1 (write_words_of alone_of l (alone_of d m (WriteWord w)).outcome.device (alone_of d m (WriteWord w)).sectors)) (takes_none d m)
        ≡ pick y (record { count = 1; device = (alone_of d m (WriteWord w)).outcome.device; sectors = (alone_of d m (WriteWord w)).sectors }) (takes_none d m)
    go true e = ap (taken_behind 1) (writes_none l (alone_of d m (WriteWord w)).outcome.device (alone_of d m (WriteWord w)).sectors (h (eqb-true _ _ e)))
    go false e = refl

behind_stop : (f : Face) (x : Secrets) (m : List ℕ) (w : ℕ) (t : Transfer) → takes_here t ≡ false
    → (step_as (write_word_as f x m w t)).outcome.number ≡ 0 → takes_in (step_as (write_word_as f x m w t)).outcome.device.face.hot.transfer ≡ false
behind_stop f x m w Idle e n = absurd (omega arith)
behind_stop f x m w (Reading r) e n = absurd (omega arith)
behind_stop f x m w (Writing r) e n = absurd (false≢true (sym e))
behind_stop f x m w (ReadingBuffer i) e n = absurd (omega arith)
behind_stop f x m w (WritingBuffer i) e n = absurd (false≢true (sym e))
behind_stop f x m w (TakingPassword b) e n = last_judged f x m w b e

-- the one word alone: it is turned away, or it is a password block's last, behind which the next is turned away
pub one_word : (w : ℕ) (l : List ℕ) (d : Device) (m : List ℕ) → takes_here d.face.hot.transfer ≡ false
    → write_words_of alone_of (w ∷ l) d m ≡ takes_one d m (alone_of d m (WriteWord w))
unfolding alone_of ignored_of act_of write_word_of
one_word w l d m e = only_one w l d m (behind_stop d.face d.secrets m w d.face.hot.transfer e)

-- ---- all words, behind write_words

-- a step that is done here is the device's own
here_done : (d : Device) (m : List ℕ) (a : Action) → (here_of d m a).outcome.number ≡ 0 → here_of d m a ≡ alone_of d m a
unfolding here_of
here_done d m a n = either_way (takes_here d.face.hot.transfer) (here_step d m a) (λ e. absurd (let q = rw e at n in omega (arith, q)))

-- single writes of these words are those that t has, and of the rest of them from there
abbrev Behind : List ℕ → Device → List ℕ → Taken → Type 0
Behind l d m t = write_words_of alone_of l d m ≡ taken_behind t.count (write_words_of alone_of (drop t.count l) t.device t.sectors)

behind_more : (w : ℕ) (l : List ℕ) (d : Device) (m : List ℕ) (s : Step) (t : Taken) → alone_of d m (WriteWord w) ≡ s → eqb s.outcome.number 0 ≡ true
    → Behind l s.outcome.device s.sectors t → Behind (w ∷ l) d m (taken_behind 1 t)
unfolding write_words_of
behind_more w l d m s t q e rest =
    let n : suc t.count ≡ 1 + t.count = omega arith in
    ap (λ (z : Step). pick (eqb z.outcome.number 0) (taken_behind 1 (write_words_of alone_of l z.outcome.device z.sectors)) (takes_none d m)) q
    ∙ ap (λ (y : Bool). pick y (taken_behind 1 (write_words_of alone_of l s.outcome.device s.sectors)) (takes_none d m)) e
    ∙ ap (taken_behind 1) rest
    ∙ taken_behind_law 1 t.count (write_words_of alone_of (drop t.count l) t.device t.sectors)
    ∙ ap (λ (c : ℕ). taken_behind (1 + t.count) (write_words_of alone_of (drop c (w ∷ l)) t.device t.sectors)) n

here_then : (l : List ℕ) (d : Device) (m : List ℕ) → Behind l d m (write_words_of here_of l d m)
unfolding write_words_of
here_then [] d m = refl
here_then (w ∷ l) d m = go (here_then l (here_of d m (WriteWord w)).outcome.device (here_of d m (WriteWord w)).sectors)
  where
    go : Behind l (here_of d m (WriteWord w)).outcome.device (here_of d m (WriteWord w)).sectors (write_words_of here_of l (here_of d m (WriteWord w)).outcome.device (here_of d m (WriteWord w)).sectors)
        → Behind (w ∷ l) d m (write_words_of here_of (w ∷ l) d m)
    go rest =
        pick_each (Behind (w ∷ l) d m) (eqb (here_of d m (WriteWord w)).outcome.number 0) _ _
        (λ e. behind_more w l d m (here_of d m (WriteWord w)) _ (sym (here_done d m (WriteWord w) (eqb-true _ _ e))) e rest)
        (λ e. behind_none (write_words_of alone_of (w ∷ l) d m))

-- what write_words leaves to do: the words behind those that passed
pub writes_behind : {h : Hot} {s : Settled} {b m bytes : List ℕ} {r : Passed} {after sectors : List ℕ} → Writes h s b m bytes r after sectors → (x : Secrets)
    → write_words_of alone_of (words_in bytes) (device_with h s b x) m ≡ taken_behind r.words (write_words_of alone_of (drop r.words (words_in bytes)) (device_with r.hot s after x) sectors)
writes_behind {h} {s} {b} {m} {bytes} k x = subst (Behind (words_in bytes) (device_with h s b x) m) (k.taken x) (here_then (words_in bytes) (device_with h s b x) m)

-- no whole word is left: this is what single writes of all words come to
pub writes_all : {h : Hot} {s : Settled} {b m bytes : List ℕ} {r : Passed} {after sectors : List ℕ} → Writes h s b m bytes r after sectors → length bytes < 2 * r.words + 2
    → (x : Secrets) → write_words_of alone_of (words_in bytes) (device_with h s b x) m ≡ record { count = r.words; device = device_with r.hot s after x; sectors = sectors }
unfolding write_words_of
writes_all {h} {s} {b} {m} {bytes} {r} {after} {sectors} k l x =
    let e : r.words + 0 ≡ r.words = omega arith in
    let n : length (words_in bytes) ≡ length bytes / 2 = words_length bytes in
    let none : length (words_in bytes) ≤ r.words = omega (arith, n, l) in
    writes_behind k x
    ∙ ap (λ (ws : List ℕ). taken_behind r.words (write_words_of alone_of ws (device_with r.hot s after x) sectors)) (drop_of_length-le (words_in bytes) none)
    ∙ ap (λ (n : ℕ). record { count = n; device = device_with r.hot s after x; sectors = sectors }) e

-- a word that is taken in here is done
word_taken : (f : Face) (x : Secrets) (m : List ℕ) (w : ℕ) (t : Transfer) → takes_here t ≡ true → (step_as (write_word_as f x m w t)).outcome.number ≡ 0
unfolding password_word
word_taken f x m w Idle e = absurd (false≢true e)
word_taken f x m w (Reading r) e = absurd (false≢true e)
word_taken f x m w (Writing r) e = refl
word_taken f x m w (ReadingBuffer n) e = absurd (false≢true e)
word_taken f x m w (WritingBuffer n) e = refl
word_taken f x m w (TakingPassword b) e = rw e

-- where words are left, the next is not taken in here
stopped : (l : List ℕ) (d : Device) (m : List ℕ) (t : Taken) → write_words_of here_of l d m ≡ t → t.count < length l → takes_here t.device.face.hot.transfer ≡ false
unfolding here_of alone_of ignored_of act_of write_word_of
stopped l d m t e less = either_way (takes_here t.device.face.hot.transfer) (λ y. absurd (turned_away_law less (done y))) (λ y. y)
  where
    turned_away_law : t.count < length l → (here_of t.device t.sectors (WriteWord (get_or l t.count 0))).outcome.number ≡ 0 → ⊥
    turned_away_law = (subst (WritesAs here_of l d m) e (writes_session here_of l d m)).next

    done : takes_here t.device.face.hot.transfer ≡ true → (here_of t.device t.sectors (WriteWord (get_or l t.count 0))).outcome.number ≡ 0
    done y = rw y (word_taken t.device.face t.device.secrets t.sectors (get_or l t.count 0) t.device.face.hot.transfer y)

-- a whole word is left: it is not taken in here
pub writes_stopped : {h : Hot} {s : Settled} {b m bytes : List ℕ} {r : Passed} {after sectors : List ℕ} → Writes h s b m bytes r after sectors → r.words < length bytes / 2
    → Secrets → takes_here r.hot.transfer ≡ false
writes_stopped {h} {s} {b} {m} {bytes} {r} k l x =
    let n : length (words_in bytes) ≡ length bytes / 2 = words_length bytes in
    let less : r.words < length (words_in bytes) = omega (arith, n, l) in
    stopped (words_in bytes) (device_with h s b x) m _ (k.taken x) less

word_of : (bytes : List ℕ) (k : ℕ) → 2 * k + 2 ≤ length bytes → get_or (words_in bytes) k 0 ≡ word_at bytes k
unfolding words_in word_at
word_of [] k h = absurd (omega arith)
word_of (y ∷ []) k h = absurd (let q : 2 * k + 2 ≤ 1 = h in omega arith)
word_of (y ∷ z ∷ l) zero h = refl
word_of (y ∷ z ∷ l) (suc k) h =
    let low : 2 * suc k ≡ suc (suc (2 * k)) = omega arith in
    let high : suc (suc (2 * k)) + 1 ≡ suc (suc (2 * k + 1)) = omega arith in
    rw (low, high) (word_of l k (omega arith))

-- a whole word is left: single writes of all words come to what that one alone does
pub writes_next : {h : Hot} {s : Settled} {b m bytes : List ℕ} {r : Passed} {after sectors : List ℕ} → Writes h s b m bytes r after sectors → 2 * r.words + 2 ≤ length bytes
    → (x : Secrets) → write_words_of alone_of (words_in bytes) (device_with h s b x) m
    ≡ taken_behind r.words (takes_one (device_with r.hot s after x) sectors (alone_of (device_with r.hot s after x) sectors (WriteWord (word_at bytes r.words))))
writes_next {h} {s} {b} {m} {bytes} {r} {after} {sectors} k l x =
    let n : length (words_in bytes) ≡ length bytes / 2 = words_length bytes in
    let less : r.words < length (words_in bytes) = omega (arith, n, l) in
    let half : r.words < length bytes / 2 = omega (arith, l) in
    writes_behind k x
    ∙ ap (λ (ws : List ℕ). taken_behind r.words (write_words_of alone_of ws (device_with r.hot s after x) sectors)) (drop-cons (words_in bytes) r.words 0 less)
    ∙ ap (λ (w : ℕ). taken_behind r.words (write_words_of alone_of (w ∷ drop (suc r.words) (words_in bytes)) (device_with r.hot s after x) sectors)) (word_of bytes r.words l)
    ∙ ap (taken_behind r.words)
    (one_word (word_at bytes r.words) (drop (suc r.words) (words_in bytes)) (device_with r.hot s after x) sectors (writes_stopped k half x))

-- ---- by the host's rules

pub ready_reads : (n : ℕ) (d : Device) (m : List ℕ) → Ready d m → read_words_of step_of n d m ≡ read_words_of alone_of n d m
unfolding read_words_of alone_of ignored_of act_of
ready_reads zero d m k = refl
ready_reads (suc n) d m k =
    ap (λ (s : Step). pick (eqb s.outcome.number 0) (hands_first s (read_words_of step_of n s.outcome.device s.sectors)) (hands_none d m)) (ready_step d m ReadWord k)
    ∙ ap (λ (h : Handed). pick (eqb (alone_of d m ReadWord).outcome.number 0) (hands_first (alone_of d m ReadWord) h) (hands_none d m))
    (ready_reads n (alone_of d m ReadWord).outcome.device (alone_of d m ReadWord).sectors (ready_after d m ReadWord (alone_of d m ReadWord) k refl refl))

pub ready_writes : (ws : List ℕ) (d : Device) (m : List ℕ) → Whole d m → write_words_of step_of ws d m ≡ write_words_of alone_of ws d m
unfolding write_words_of
ready_writes [] d m k = refl
ready_writes (w ∷ ws) d m k =
    ap (λ (s : Step). pick (eqb s.outcome.number 0) (taken_behind 1 (write_words_of step_of ws s.outcome.device s.sectors)) (takes_none d m)) (ready_step d m (WriteWord w) k.ready)
    ∙ ap (λ (t : Taken). pick (eqb (alone_of d m (WriteWord w)).outcome.number 0) (taken_behind 1 t) (takes_none d m))
    (ready_writes ws (alone_of d m (WriteWord w)).outcome.device (alone_of d m (WriteWord w)).sectors (rw (ready_step d m (WriteWord w) k.ready) at (step_whole d m (WriteWord w) k)))
