-- Words written a block at a time are single writes: word by word up to the block's last, then what that one leaves.
use mathlib.Core.Path.{◌≡◌, refl, sym, ap, ◌∙◌}
use mathlib.Core.Bool.{Bool, true, false}
use mathlib.Core.List.{List, [], ◌∷◌, ◌++◌, append_assoc}
use Prim.Native.Nat.{ℕ, suc, ◌+◌, ◌-◌, ◌≤◌, ◌<◌}
use native.Mathlib.Nat.{zero-add}
use native.Mathlib.Omega.{arith}
use lib.Dec.{eqb, ltb}
use lib.ListN.{length, get_or, take, length-append}
use lib.Seq.{take-suc, take-length, length-take-le}
use borrow.Author.Tests.{lt-ltb, ltb-true, ltb-false}
use Rattle.base.specs.Choice.{pick}
use Rattle.base.proofs.Tests.{either_way, false≢true}
use Rattle.lock.specs.declared.Secrets.{Secrets}
use Rattle.settled.specs.declared.Settled.{Settled}
use Rattle.address.specs.declared.Address.{Address}
use Rattle.address.specs.declared.Address.TheVariants.{Names, Faults}
use Rattle.block.specs.Words.{word_put}
use Rattle.face.specs.Face.{face_with, with_transfer}
use Rattle.face.specs.Reads.{seen}
use Rattle.face.specs.declared.Hot.{Hot}
use Rattle.face.specs.declared.Run.{Run}
use Rattle.face.specs.declared.Face.{Face}
use Rattle.face.specs.declared.Transfer.{Transfer}
use Rattle.face.specs.declared.Transfer.TheVariants.{Idle, Reading, Writing, ReadingBuffer, WritingBuffer, TakingPassword}
use Rattle.face.specs.declared.Answer.TheVariants.{Done}
use Rattle.face.specs.declared.Action.{Action}
use Rattle.face.specs.declared.Action.TheVariants.{WriteWord}
use Rattle.fastpath.specs.Dev.{ignored_of}
use Rattle.transfers.specs.Sectors.{located, next_run, ended_well, not_found_of}
use Rattle.transfers.specs.Words.{write_buffer_word}
use Rattle.writing.specs.Words.{want_as, want_at, write_next_of, write_last_as, write_last_of, store_as, write_last_sectors, write_run_of, write_run_sectors}
use Rattle.disk.specs.Actions.{write_word_as, write_word_of, act_of}
use Rattle.device.specs.Alone.{Step, device_of, step_as, alone_of}
use Rattle.device.specs.declared.Device.{Device}
use Rattle.device.proofs.FastStep.{quick_settles}
use Rattle.laws.specs.Sessions.{Rules}
use Rattle.laws.proofs.ReadBack.{put_all}
use Rattle.glance.specs.Places.{place_of, run_placed_at, placed_at, hot_at}
use Rattle.glance.specs.Glances.{shows, takes_in, write_glance, write_glance_buffer, glance_of, glance_buffer}
use Rattle.glance.proofs.Glancing.{hot_same, glance_settles, glance_buffer_law}
use Rattle.words.specs.Words.{Taken, takes_none, taken_behind, write_words_of}
use Rattle.words.specs.Blocks.{face_at, takes_to, takes_here, block_taken, block_stored, written_up_to, stored_up_to}
use Rattle.words.specs.Bulk.{device_with, here_of}
use Rattle.words.proofs.BulkReads.{word_done}

-- ---- single words

-- a word that passes
takes_first : (r : Rules) (w : ℕ) (l : List ℕ) (d : Device) (m : List ℕ) (e : Device) (q : List ℕ) (v : ℕ) → r d m (WriteWord w) ≡ word_done e q v
    → write_words_of r (w ∷ l) d m ≡ taken_behind 1 (write_words_of r l e q)
unfolding write_words_of
takes_first r w l d m e q v k =
    ap (λ (s : Step). pick (eqb s.outcome.number 0) (taken_behind 1 (write_words_of r l s.outcome.device s.sectors)) (takes_none d m)) k

pub taken_behind_law : (j k : ℕ) (t : Taken) → taken_behind j (taken_behind k t) ≡ taken_behind (j + k) t
taken_behind_law j k t =
    let e : j + (k + t.count) ≡ j + k + t.count = omega arith in
    ap (λ (n : ℕ). record { count = n; device = t.device; sectors = t.sectors }) e

pub behind_none : (t : Taken) → t ≡ taken_behind 0 t
behind_none t = ap (λ (n : ℕ). record { count = n; device = t.device; sectors = t.sectors }) (sym (zero-add t.count))

-- a word that passes or not, and those behind it
abbrev taken_next : Bool → Device → List ℕ → Taken → Taken
taken_next y d m t = pick y (taken_behind 1 t) (takes_none d m)

append_next : (r : Rules) (ws l : List ℕ) (d : Device) (m : List ℕ) (s : Step) (y : Bool)
    → ((write_words_of r ws s.outcome.device s.sectors).count ≡ length ws
    → write_words_of r (ws ++ l) s.outcome.device s.sectors
    ≡ taken_behind (length ws) (write_words_of r l (write_words_of r ws s.outcome.device s.sectors).device (write_words_of r ws s.outcome.device s.sectors).sectors))
    → (taken_next y d m (write_words_of r ws s.outcome.device s.sectors)).count ≡ suc (length ws)
    → taken_next y d m (write_words_of r (ws ++ l) s.outcome.device s.sectors)
    ≡ taken_behind (suc (length ws))
    (write_words_of r l (taken_next y d m (write_words_of r ws s.outcome.device s.sectors)).device (taken_next y d m (write_words_of r ws s.outcome.device s.sectors)).sectors)
append_next r ws l d m s true rest e =
    let n : 1 + length ws ≡ suc (length ws) = omega arith in
    ap (taken_behind 1) (rest (omega arith)) ∙ taken_behind_law 1 (length ws) _
    ∙ ap (λ (k : ℕ). taken_behind k (write_words_of r l (write_words_of r ws s.outcome.device s.sectors).device (write_words_of r ws s.outcome.device s.sectors).sectors)) n
append_next r ws l d m s false rest e = absurd (omega arith)

-- words that pass, and those behind them
pub writes_append : (r : Rules) (ws l : List ℕ) (d : Device) (m : List ℕ) → (write_words_of r ws d m).count ≡ length ws
    → write_words_of r (ws ++ l) d m ≡ taken_behind (length ws) (write_words_of r l (write_words_of r ws d m).device (write_words_of r ws d m).sectors)
unfolding write_words_of
writes_append r [] l d m e = behind_none (write_words_of r l d m)
writes_append r (w ∷ ws) l d m e =
    append_next r ws l d m (r d m (WriteWord w)) (eqb (r d m (WriteWord w)).outcome.number 0)
    (writes_append r ws l (r d m (WriteWord w)).outcome.device (r d m (WriteWord w)).sectors) e

-- a word that is taken in here is the device's own
pub here_step : (d : Device) (m : List ℕ) (a : Action) → takes_here d.face.hot.transfer ≡ true → here_of d m a ≡ alone_of d m a
unfolding here_of
here_step d m a e = rw e

takes_within : (t : Transfer) (p : ℕ) → takes_in t ≡ true → p < 255 → takes_here (placed_at t p) ≡ true
takes_within Idle p o l = absurd (false≢true o)
takes_within (Reading r) p o l = absurd (false≢true o)
takes_within (Writing r) p o l = refl
takes_within (ReadingBuffer n) p o l = absurd (false≢true o)
takes_within (WritingBuffer n) p o l = refl
takes_within (TakingPassword b) p o l = lt-ltb p 255 l

-- a word that is not its block's last
word_in_law : (h : Hot) (s : Settled) (b : List ℕ) (x : Secrets) (m : List ℕ) (p : ℕ) (raised : Bool) (w : ℕ) → takes_in h.transfer ≡ true → p < 255
    → here_of (device_with (hot_at h p raised) s b x) m (WriteWord w) ≡ word_done (device_with (hot_at h (p + 1) raised) s (word_put b p w) x) m 0
unfolding glance_of write_glance glance_buffer write_glance_buffer
word_in_law h s b x m p raised w o l =
    let buffer : word_put b p w ≡ glance_buffer h p b (WriteWord w) = simp (o, lt-ltb p 255 l) in
    here_step (device_with (hot_at h p raised) s b x) m (WriteWord w) (takes_within h.transfer p o l)
    ∙ quick_settles (device_with (hot_at h p raised) s b x) m (WriteWord w) (word_put b p w) (seen (hot_at h (p + 1) raised) Done 0)
    (glance_settles h p raised b (WriteWord w) (shows (p + 1) raised 0) (simp (o, lt-ltb p 255 l)))
    (buffer ∙ glance_buffer_law h p raised b (WriteWord w))

-- so many of them
words_in_law : (h : Hot) (s : Settled) (x : Secrets) (m : List ℕ) (raised : Bool) → takes_in h.transfer ≡ true
    → (ws l b : List ℕ) (p : ℕ) → p + length ws ≤ 255
    → write_words_of here_of (ws ++ l) (device_with (hot_at h p raised) s b x) m
    ≡ taken_behind (length ws) (write_words_of here_of l (device_with (hot_at h (p + length ws) raised) s (put_all b p ws) x) m)
unfolding put_all
words_in_law h s x m raised o [] l b p g =
    let e : p ≡ p + 0 = omega arith in
    ap (λ (i : ℕ). write_words_of here_of l (device_with (hot_at h i raised) s b x) m) e
    ∙ behind_none (write_words_of here_of l (device_with (hot_at h (p + 0) raised) s b x) m)
words_in_law h s x m raised o (w ∷ ws) l b p g =
    let i : p + 1 + length ws ≡ p + suc (length ws) = omega arith in
    let c : 1 + length ws ≡ suc (length ws) = omega arith in
    takes_first here_of w (ws ++ l) (device_with (hot_at h p raised) s b x) m _ _ _ (word_in_law h s b x m p raised w o (omega arith))
    ∙ ap (taken_behind 1) (words_in_law h s x m raised o ws l (word_put b p w) (p + 1) (omega arith))
    ∙ taken_behind_law 1 (length ws) (write_words_of here_of l (device_with (hot_at h (p + 1 + length ws) raised) s (put_all (word_put b p w) (p + 1) ws) x) m)
    ∙ ap (λ (n : ℕ). taken_behind n (write_words_of here_of l (device_with (hot_at h (p + 1 + length ws) raised) s (put_all (word_put b p w) (p + 1) ws) x) m)) c
    ∙ ap (λ (n : ℕ). taken_behind (suc (length ws)) (write_words_of here_of l (device_with (hot_at h n raised) s (put_all (word_put b p w) (p + 1) ws) x) m)) i

-- ---- a block's last word: it leaves the same wherever the transfer stood

want_same : (h : Hot) (s : Settled) (b : List ℕ) (t : Transfer) (r : Run) (a : Address) → want_as (face_with (with_transfer h t) s b) r a ≡ want_as (face_with h s b) r a
unfolding not_found_of
want_same h s b t r (Names y) = refl
want_same h s b t r Faults = refl

next_same : (h : Hot) (s : Settled) (b : List ℕ) (t : Transfer) (r : Run) → write_next_of (face_with (with_transfer h t) s b) r ≡ write_next_of (face_with h s b) r
unfolding write_next_of want_at
next_same h s b t r =
    ap (λ (f : Face). pick (ltb 0 r.after) f (ended_well (face_with h s b) r.at))
    (want_same h s b t (next_run r s.translation) (located s (next_run r s.translation).at))

last_same : (h : Hot) (s : Settled) (b : List ℕ) (t : Transfer) (r : Run) (a : Address)
    → write_last_as (face_with (with_transfer h t) s b) (run_placed_at r 255) a ≡ write_last_as (face_with h s b) r a
unfolding not_found_of write_next_of
last_same h s b t r (Names y) = next_same h s b t r
last_same h s b t r Faults = refl

store_same : (h : Hot) (s : Settled) (b m : List ℕ) (t : Transfer) (a : Address) → store_as (face_with (with_transfer h t) s b) m a ≡ store_as (face_with h s b) m a
store_same h s b m t (Names y) = refl
store_same h s b m t Faults = refl

word_last : (h : Hot) (s : Settled) (b : List ℕ) (x : Secrets) (m : List ℕ) (w : ℕ) (t : Transfer) → takes_to t ≡ 256
    → step_as (write_word_as (face_with (with_transfer h (placed_at t 255)) s b) x m w (placed_at t 255))
    ≡ word_done (device_of (block_taken (face_with h s (word_put b 255 w)) t) x) (block_stored (face_with h s (word_put b 255 w)) m t) 0
unfolding write_run_of write_run_sectors write_last_of write_last_sectors write_buffer_word
word_last h s b x m w Idle o = absurd (omega arith)
word_last h s b x m w (Reading r) o = absurd (omega arith)
word_last h s b x m w (Writing r) o =
    let face = last_same h s (word_put b 255 w) (placed_at (Writing r) 255) r (located s r.at) in
    let sectors = store_same h s (word_put b 255 w) m (placed_at (Writing r) 255) (located s r.at) in
    λ i. word_done (device_of (face i) x) (sectors i) 0
word_last h s b x m w (ReadingBuffer n) o = absurd (omega arith)
word_last h s b x m w (WritingBuffer n) o = refl
word_last h s b x m w (TakingPassword p) o = absurd (omega arith)

takes_last : (t : Transfer) → takes_to t ≡ 256 → takes_here (placed_at t 255) ≡ true
takes_last Idle o = absurd (omega arith)
takes_last (Reading r) o = absurd (omega arith)
takes_last (Writing r) o = refl
takes_last (ReadingBuffer n) o = absurd (omega arith)
takes_last (WritingBuffer n) o = refl
takes_last (TakingPassword p) o = absurd (omega arith)

last_step_law : (h : Hot) (s : Settled) (b : List ℕ) (x : Secrets) (m : List ℕ) (w : ℕ) → takes_to h.transfer ≡ 256
    → here_of (device_with (hot_at h 255 h.signals.raised) s b x) m (WriteWord w)
    ≡ word_done (device_of (written_up_to (face_with h s (word_put b 255 w)) 256) x) (stored_up_to (face_with h s (word_put b 255 w)) m 256) 0
unfolding alone_of ignored_of act_of write_word_of written_up_to stored_up_to
last_step_law h s b x m w o =
    here_step (device_with (hot_at h 255 h.signals.raised) s b x) m (WriteWord w) (takes_last h.transfer o)
    ∙ word_last h s b x m w h.transfer o

-- ---- words of a block

put_last : (ws b : List ℕ) (p w : ℕ) → put_all b p (ws ++ (w ∷ [])) ≡ word_put (put_all b p ws) (p + length ws) w
unfolding put_all
put_last [] b p w = let e : p ≡ p + 0 = omega arith in ap (λ (i : ℕ). word_put b i w) e
put_last (v ∷ ws) b p w =
    let e : p + 1 + length ws ≡ p + suc (length ws) = omega arith in
    put_last ws (word_put b p v) (p + 1) w ∙ ap (λ (i : ℕ). word_put (put_all (word_put b p v) (p + 1) ws) i w) e

-- from where the transfer stands up to a place in the block
words_within : (h : Hot) (s : Settled) (b : List ℕ) (x : Secrets) (m : List ℕ) → takes_in h.transfer ≡ true
    → (ws l : List ℕ) (p : ℕ) → p ≡ place_of h.transfer → p + length ws ≤ 255
    → write_words_of here_of (ws ++ l) (device_with h s b x) m
    ≡ taken_behind (length ws) (write_words_of here_of l (device_with (hot_at h (p + length ws) h.signals.raised) s (put_all b p ws) x) m)
words_within h s b x m o ws l p e g =
    ap (λ (i : Hot). write_words_of here_of (ws ++ l) (device_with i s b x) m) (sym (ap (λ (i : ℕ). hot_at h i h.signals.raised) e ∙ hot_same h))
    ∙ words_in_law h s x m h.signals.raised o ws l b p g

-- what words of a block leave, which are put from place p on
abbrev pub taken_to : Hot → Settled → List ℕ → Secrets → List ℕ → List ℕ → List ℕ → ℕ → Taken
taken_to h s b x m ws l p =
    taken_behind (length ws) (write_words_of here_of l (device_of (written_up_to (face_with h s (put_all b p ws)) (p + length ws)) x) (stored_up_to (face_with h s (put_all b p ws)) m (p + length ws)))

-- and behind its last word
words_whole : (h : Hot) (s : Settled) (b : List ℕ) (x : Secrets) (m : List ℕ) → takes_in h.transfer ≡ true → takes_to h.transfer ≡ 256
    → (ws l : List ℕ) (w p : ℕ) → p ≡ place_of h.transfer → p + length ws ≡ 255
    → write_words_of here_of (ws ++ (w ∷ l)) (device_with h s b x) m ≡ taken_to h s b x m (ws ++ (w ∷ [])) l p
words_whole h s b x m o t ws l w p e g =
    let long : length (ws ++ (w ∷ [])) ≡ length ws + 1 = length-append ws (w ∷ []) in
    let behind : 256 ≡ p + length (ws ++ (w ∷ [])) = omega arith in
    let put : put_all b p (ws ++ (w ∷ [])) ≡ word_put (put_all b p ws) 255 w = put_last ws b p w ∙ ap (λ (i : ℕ). word_put (put_all b p ws) i w) g in
    words_within h s b x m o ws (w ∷ l) p e (omega arith)
    ∙ ap (λ (i : ℕ). taken_behind (length ws) (write_words_of here_of (w ∷ l) (device_with (hot_at h i h.signals.raised) s (put_all b p ws) x) m)) g
    ∙ ap (taken_behind (length ws)) (takes_first here_of w l (device_with (hot_at h 255 h.signals.raised) s (put_all b p ws) x) m _ _ _ (last_step_law h s (put_all b p ws) x m w t))
    ∙ taken_behind_law (length ws) 1 _
    ∙ ap (λ (n : ℕ). taken_behind n (write_words_of here_of l (device_of (written_up_to (face_with h s (word_put (put_all b p ws) 255 w)) 256) x) (stored_up_to (face_with h s (word_put (put_all b p ws) 255 w)) m 256))) (sym long)
    ∙ ap (λ (c : List ℕ). taken_behind (length (ws ++ (w ∷ []))) (write_words_of here_of l (device_of (written_up_to (face_with h s c) 256) x) (stored_up_to (face_with h s c) m 256))) (sym put)
    ∙ ap (λ (n : ℕ). taken_behind (length (ws ++ (w ∷ []))) (write_words_of here_of l (device_of (written_up_to (face_with h s (put_all b p (ws ++ (w ∷ [])))) n) x) (stored_up_to (face_with h s (put_all b p (ws ++ (w ∷ [])))) m n))) behind

-- a transfer whose next word is taken in here
takes_word : (t : Transfer) → place_of t < takes_to t → takes_in t ≡ true
takes_word Idle h = absurd (omega arith)
takes_word (Reading r) h = absurd (omega arith)
takes_word (Writing r) h = refl
takes_word (ReadingBuffer n) h = absurd (omega arith)
takes_word (WritingBuffer n) h = refl
takes_word (TakingPassword p) h = refl

takes_most : (t : Transfer) → 256 ≤ takes_to t → takes_to t ≡ 256
takes_most Idle h = absurd (omega arith)
takes_most (Reading r) h = absurd (omega arith)
takes_most (Writing r) h = refl
takes_most (ReadingBuffer n) h = absurd (omega arith)
takes_most (WritingBuffer n) h = refl
takes_most (TakingPassword p) h = absurd (omega arith)

-- either
pub written_up_to_law : (h : Hot) (s : Settled) (b : List ℕ) (x : Secrets) (m : List ℕ) (ws l : List ℕ) (p : ℕ) → p ≡ place_of h.transfer
    → p < takes_to h.transfer → p + length ws ≤ takes_to h.transfer → write_words_of here_of (ws ++ l) (device_with h s b x) m ≡ taken_to h s b x m ws l p
unfolding written_up_to stored_up_to
written_up_to_law h s b x m ws l p e i g = either_way (ltb (p + length ws) 256) within whole
  where
    o : takes_in h.transfer ≡ true
    o = takes_word h.transfer (omega arith)

    within : ltb (p + length ws) 256 ≡ true → write_words_of here_of (ws ++ l) (device_with h s b x) m ≡ taken_to h s b x m ws l p
    within q =
        let j = ltb-true (p + length ws) 256 q in
        words_within h s b x m o ws l p e (omega arith)
        ∙ ap (λ (y : Bool). taken_behind (length ws) (write_words_of here_of l
        (device_of (pick y (face_at (face_with h s (put_all b p ws)) (p + length ws)) (block_taken (face_with h s (put_all b p ws)) h.transfer)) x)
        (pick y m (block_stored (face_with h s (put_all b p ws)) m h.transfer)))) (sym q)

    whole : ltb (p + length ws) 256 ≡ false → write_words_of here_of (ws ++ l) (device_with h s b x) m ≡ taken_to h s b x m ws l p
    whole q =
        let j = ltb-false (p + length ws) 256 q in
        let t : takes_to h.transfer ≡ 256 = takes_most h.transfer (omega arith) in
        let n : length ws ≡ suc (length ws - 1) = omega arith in
        let front : length (take (length ws - 1) ws) ≡ length ws - 1 = length-take-le (length ws - 1) ws (omega arith) in
        let split : ws ≡ take (length ws - 1) ws ++ (get_or ws (length ws - 1) 0 ∷ []) =
        sym (take-length ws) ∙ ap (λ (c : ℕ). take c ws) n ∙ take-suc ws (length ws - 1) 0 (omega arith) in
        ap (λ (c : List ℕ). write_words_of here_of (c ++ l) (device_with h s b x) m) split
        ∙ ap (λ (c : List ℕ). write_words_of here_of c (device_with h s b x) m) (append_assoc (take (length ws - 1) ws) (get_or ws (length ws - 1) 0 ∷ []) l)
        ∙ words_whole h s b x m o t (take (length ws - 1) ws) l (get_or ws (length ws - 1) 0) p e (omega arith)
        ∙ ap (λ (c : List ℕ). taken_to h s b x m c l p) (sym split)
