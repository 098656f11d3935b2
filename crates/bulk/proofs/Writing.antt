-- A bulk write over lent bytes: what single writes to the device that the bytes hold leave, written back.
use Prim.Native.Nat.{ℕ, ◌+◌, ◌*◌, ◌/◌, ◌≤◌, ◌<◌}
use mathlib.Core.Path.{◌≡◌, refl, sym, ap, ◌∙◌}
use mathlib.Core.Bool.{Bool, true, false}
use mathlib.Core.List.{List}
use native.Mathlib.Omega.{arith}
use lib.Dec.{eqb, ltb}
use Rattle.base.proofs.Tests.{either_way, false≢true}
use lib.ListN.{length, get_or, take, drop}
use lib.Seq.{sets}
use Rattle.block.specs.Words.{word_at}
use Rattle.settled.specs.declared.Settled.{Settled}
use Rattle.face.specs.Reads.{number_of}
use Rattle.face.specs.Face.{face_with}
use Rattle.face.specs.declared.Hot.{Hot}
use Rattle.face.specs.declared.Face.{Face}
use Rattle.face.specs.declared.PasswordBlock.{PasswordBlock}
use Rattle.face.specs.declared.Transfer.{Transfer}
use Rattle.face.specs.declared.Transfer.TheVariants.{Idle, Reading, Writing, ReadingBuffer, WritingBuffer, TakingPassword}
use Rattle.fastpath.specs.Dev.{ignored_of}
use Rattle.glance.specs.Glances.{takes_in}
use Rattle.lock.specs.declared.Secrets.{Secrets}
use Rattle.face.specs.declared.Answer.{Answer}
use Rattle.face.specs.declared.Answer.TheVariants.{Done}
use Rattle.face.specs.declared.Action.TheVariants.{WriteWord}
use Rattle.effects.specs.Effects.{effect}
use Rattle.effects.specs.declared.Acted.{Acted}
use Rattle.password.specs.Passwords.{password_last, password_word, password_word_sectors}
use Rattle.disk.specs.Actions.{write_word_as, write_word_of, act_of}
use Rattle.device.specs.Alone.{Step, device_of, step_as, alone_of}
use Rattle.device.specs.Host.{step_of}
use Rattle.device.specs.declared.Device.{Device}
use Rattle.laws.proofs.Endings.{Bytes}
use Rattle.layout.specs.Stored.{hot_stored, settled_stored, secrets_stored, device_stored}
use Rattle.layout.specs.Bytes.{hot_bytes, state_of}
use Rattle.lent.specs.Lent.{host_reply, GivesBack, Admitted, admission_of}
use Rattle.lent.specs.declared.Reply.{Reply}
use Rattle.lent.proofs.Lending.{LowBytes, is_refusal, hot_put}
use Rattle.words.specs.Blocks.{takes_here}
use Rattle.words.specs.Words.{Taken, taken_behind, write_words_of, words_in}
use Rattle.words.specs.Bulk.{device_with, Writes}
use Rattle.words.specs.declared.Passed.{Passed}
use Rattle.words.proofs.Bytes.{words_length}
use Rattle.words.proofs.Callers.{word_refused_law, takes_one, writes_behind, writes_all, writes_next, ready_writes}
use Rattle.bulk.specs.Bulk.{counted_reply, writes_admitted, write_lent, last_step, LastWord}
use Rattle.bulk.proofs.Few.{few_taken}
use Rattle.bulk.proofs.Reading.{of_stored, away_left}

-- ---- the word that is not taken in with those before it

-- a word that no transfer takes is turned away
not_taken : (t : Transfer) → takes_here t ≡ false → ((p : PasswordBlock) → t ≡ TakingPassword p → ⊥) → takes_in t ≡ false
not_taken Idle e n = refl
not_taken (Reading r) e n = refl
not_taken (Writing r) e n = absurd (false≢true (sym e))
not_taken (ReadingBuffer i) e n = refl
not_taken (WritingBuffer i) e n = absurd (false≢true (sym e))
not_taken (TakingPassword p) e n = absurd (n p refl)

pub last_refused : (b x : List ℕ) (h : Hot) (s : Settled) (w : ℕ) (m : List ℕ) → takes_here h.transfer ≡ false → ((p : PasswordBlock) → h.transfer ≡ TakingPassword p → ⊥)
    → LastWord b x h s w m false b x m
unfolding alone_of ignored_of act_of write_word_of
last_refused b x h s w m e n =
    record { taken = sym (word_refused_law (face_with h s x) (secrets_stored b) m w h.transfer (not_taken h.transfer e n)); state = refl; buffer = refl; sectors = refl }

-- a password block's word: the step of the device of these parts
block_step : (f : Face) (x : Secrets) (m : List ℕ) (w : ℕ) (p : PasswordBlock) → f.hot.transfer ≡ TakingPassword p
    → step_as (effect (password_word f x p w) (password_word_sectors f x m p w)) ≡ alone_of (device_of f x) m (WriteWord w)
unfolding alone_of ignored_of act_of write_word_of
block_step f x m w p e = ap (λ (t : Transfer). step_as (write_word_as f x m w t)) (sym e)

block_done : (f : Face) (x : Secrets) (p : PasswordBlock) (w : ℕ) → (password_word f x p w).answer ≡ Done
unfolding password_word password_last
block_done f x p w = either_way (ltb p.word 255) (λ e. rw e) (λ e. rw e)

-- it is taken, and the device's bytes go back
pub last_taken : (b x : List ℕ) (h : Hot) (s : Settled) (w : ℕ) (m : List ℕ) (p : PasswordBlock) (user master : List ℕ) (l : Acted) (b' x' m' : List ℕ)
    → h.transfer ≡ TakingPassword p → user ≡ take 32 (drop 99 b) → master ≡ take 32 (drop 131 b)
    → l ≡ password_word (face_with h s x) (record { user = user; master = master }) p w
    → m' ≡ password_word_sectors (face_with h s x) (record { user = user; master = master }) m p w
    → b' ≡ state_of (device_of l.face l.secrets) → x' ≡ l.face.buffer → LastWord b x h s w m true b' x' m'
last_taken b x h s w m p user master l b' x' m' e eu em el es eb ex =
    let k : record { user = user; master = master } ≡ secrets_stored b = λ i. record { user = eu i; master = em i } in
    let f : step_as (effect l m') ≡ last_step b x h s w m =
    (λ i. step_as (effect (el i) (es i)))
    ∙ ap (λ (z : Secrets). step_as (effect (password_word (face_with h s x) z p w) (password_word_sectors (face_with h s x) z m p w))) k
    ∙ block_step (face_with h s x) (secrets_stored b) m w p e in
    let done : l.answer ≡ Done = ap (λ (z : Acted). z.answer) el ∙ block_done (face_with h s x) (record { user = user; master = master }) p w in
    record {
      taken = sym (ap (λ (a : Answer). eqb (number_of a) 0) done) ∙ ap (λ (z : Step). eqb z.outcome.number 0) f;
      state = eb ∙ ap (λ (z : Step). state_of z.outcome.device) f;
      buffer = ex ∙ ap (λ (z : Step). z.outcome.device.face.buffer) f;
      sectors = ap (λ (z : Step). z.sectors) f;
    }

-- ---- all words

-- the words that passed, of the device that the bytes hold
taken_stored : (b x m bytes : List ℕ) (h : Hot) (s : Settled) (t : Settled → Taken) → h ≡ hot_stored b → s ≡ settled_stored b
    → write_words_of alone_of (words_in bytes) (device_with h s x (secrets_stored b)) m ≡ t s
    → write_words_of alone_of (words_in bytes) (device_stored b x) m ≡ t (settled_stored b)
taken_stored b x m bytes h s t eh es k = of_stored b x h s (λ (d : Device). write_words_of alone_of (words_in bytes) d m) eh es ∙ k ∙ ap t es

-- what a bulk gives, by where single writes lead
counted_gives : (b x m bytes : List ℕ) (t : Taken) (k : ℕ) (r : Reply) (b' x' m' : List ℕ) → write_words_of alone_of (words_in bytes) (device_stored b x) m ≡ t → k ≡ t.count → r ≡ counted_reply k (length bytes / 2)
    → b' ≡ state_of t.device → x' ≡ t.device.face.buffer → m' ≡ t.sectors
    → GivesBack (writes_admitted b x m (words_in bytes)) r b' x' m'
counted_gives b x m bytes t k r b' x' m' e ek er eb ex em =
    rw (e, words_length bytes)
    (record { reply = er ∙ ap (λ (n : ℕ). counted_reply n (length bytes / 2)) ek; state = eb; buffer = ex; sectors = em })

-- all words passed
pub all_gives : (b x m bytes : List ℕ) (h : Hot) (s : Settled) (p : Passed) (r : Reply) (b' x' m' : List ℕ) → Admitted b x m → LowBytes b
    → h ≡ hot_stored b → s ≡ settled_stored b → Writes h s x m bytes p x' m' → length bytes / 2 ≤ p.words
    → b' ≡ sets b 0 (hot_bytes p.hot) → r ≡ counted_reply p.words (length bytes / 2)
    → GivesBack (writes_admitted b x m (words_in bytes)) r b' x' m'
all_gives b x m bytes h s p r b' x' m' a low eh es k full eb er =
    let few : length bytes < 2 * p.words + 2 = omega (arith, full) in
    let e = taken_stored b x m bytes h s (λ (z : Settled). record { count = p.words; device = device_with p.hot z x' (secrets_stored b); sectors = m' }) eh es (writes_all k few (secrets_stored b)) in
    counted_gives b x m bytes _ p.words r b' x' m' e refl er (eb ∙ hot_put b p.hot a.formed low) refl refl

-- the step that the word behind them makes
behind : (b x m bytes : List ℕ) (h : Hot) (s : Settled) (p : Passed) (x' m' : List ℕ) → h ≡ hot_stored b → s ≡ settled_stored b
    → Writes h s x m bytes p x' m' → p.words < length bytes / 2
    → write_words_of alone_of (words_in bytes) (device_stored b x) m
    ≡ taken_behind p.words (takes_one (device_with p.hot (settled_stored b) x' (secrets_stored b)) m' (last_step b x' p.hot (settled_stored b) (word_at bytes p.words) m'))
behind b x m bytes h s p x' m' eh es k less =
    let more : 2 * p.words + 2 ≤ length bytes = omega (arith, less) in
    taken_stored b x m bytes h s (λ (z : Settled). taken_behind p.words (takes_one (device_with p.hot z x' (secrets_stored b)) m' (last_step b x' p.hot z (word_at bytes p.words) m'))) eh es
    (writes_next k more (secrets_stored b))

-- it is taken: a password block's last, and none is taken behind it
pub done_gives : (b x m bytes : List ℕ) (h : Hot) (s : Settled) (p : Passed) (y m₁ : List ℕ) (w : ℕ) (t : Bool) (r : Reply) (b' x' m' : List ℕ)
    → h ≡ hot_stored b → s ≡ settled_stored b → Writes h s x m bytes p y m₁ → p.words < length bytes / 2 → w ≡ word_at bytes p.words
    → LastWord b y p.hot s w m₁ t b' x' m' → t ≡ true → r ≡ counted_reply (p.words + 1) (length bytes / 2)
    → GivesBack (writes_admitted b x m (words_in bytes)) r b' x' m'
done_gives b x m bytes h s p y m₁ w t r b' x' m' eh es k less ew g et er =
    let f = rw (es, ew, et) at g in
    let e = rw (sym f.taken) at (behind b x m bytes h s p y m₁ eh es k less) in
    counted_gives b x m bytes _ (p.words + 1) r b' x' m' e refl er f.state f.buffer f.sectors

-- it is turned away: the hot part that the words before it led to goes back
pub refused_gives : (b x m bytes : List ℕ) (h : Hot) (s : Settled) (p : Passed) (y m₁ : List ℕ) (w : ℕ) (t : Bool) (r : Reply) (b₁ b' x' m' : List ℕ) → Admitted b x m → LowBytes b
    → h ≡ hot_stored b → s ≡ settled_stored b → Writes h s x m bytes p y m₁ → p.words < length bytes / 2 → w ≡ word_at bytes p.words
    → LastWord b y p.hot s w m₁ t b₁ x' m' → t ≡ false → b' ≡ sets b₁ 0 (hot_bytes p.hot) → r ≡ counted_reply p.words (length bytes / 2)
    → GivesBack (writes_admitted b x m (words_in bytes)) r b' x' m'
refused_gives b x m bytes h s p y m₁ w t r b₁ b' x' m' a low eh es k less ew g et eb er =
    let f = rw (es, ew, et) at g in
    let e = rw (sym f.taken) at (behind b x m bytes h s p y m₁ eh es k less) in
    let c : p.words ≡ p.words + 0 = omega arith in
    counted_gives b x m bytes _ p.words r b' x' m' e c er
    (eb ∙ ap (λ (z : List ℕ). sets z 0 (hot_bytes p.hot)) f.state ∙ hot_put b p.hot a.formed low) f.buffer f.sectors

-- let in, the words are written
pub writes_in : (b x m bytes : List ℕ) (r : Reply) (b' x' m' : List ℕ) → Done ≡ admission_of b m → GivesBack (writes_admitted b x m (words_in bytes)) r b' x' m'
    → GivesBack (write_lent b x m (words_in bytes)) r b' x' m'
writes_in b x m bytes r b' x' m' e k = rw (sym e) k

-- turned away before any word
pub writes_away : (b x m bytes : List ℕ) (w : Answer) (r : Reply) → w ≡ admission_of b m → is_refusal w ≡ true → r ≡ host_reply (number_of w) 0
    → GivesBack (write_lent b x m (words_in bytes)) r b x m
writes_away b x m bytes w r e f g =
    rw (sym e, away_left b x m (writes_admitted b x m (words_in bytes)) w f) (record { reply = g; state = refl; buffer = refl; sectors = refl })

-- how many words pass in all
pub few_written : (b x m bytes : List ℕ) (h : Hot) (s : Settled) (p : Passed) (y m₁ : List ℕ) → h ≡ hot_stored b → s ≡ settled_stored b
    → Bytes (hot_stored b).transfer → Writes h s x m bytes p y m₁ → p.words ≤ 65536
few_written b x m bytes h s p y m₁ eh es z k =
    let f = few_taken (words_in bytes) (device_stored b x) m z in
    let e = taken_stored b x m bytes h s (λ (v : Settled). taken_behind p.words (write_words_of alone_of (drop p.words (words_in bytes)) (device_with p.hot v y (secrets_stored b)) m₁)) eh es (writes_behind k (secrets_stored b)) in
    let g = rw (ap (λ (t : Taken). t.count) e) at f in
    omega (arith, g)

pub few_done : (b x m bytes : List ℕ) (h : Hot) (s : Settled) (p : Passed) (y m₁ : List ℕ) (w : ℕ) (v : Bool) (b' x' m' : List ℕ) → h ≡ hot_stored b → s ≡ settled_stored b
    → Bytes (hot_stored b).transfer → Writes h s x m bytes p y m₁ → p.words < length bytes / 2 → w ≡ word_at bytes p.words
    → LastWord b y p.hot s w m₁ v b' x' m' → v ≡ true → p.words + 1 ≤ 65536
few_done b x m bytes h s p y m₁ w v b' x' m' eh es z k less ew g ev =
    let f = rw (es, ew, ev) at g in
    let t = few_taken (words_in bytes) (device_stored b x) m z in
    let e = rw (sym f.taken) at (behind b x m bytes h s p y m₁ eh es k less) in
    rw (ap (λ (c : Taken). c.count) e) at t

-- the word behind those that passed
pub word_is : (bytes : List ℕ) (k : ℕ) {w : ℕ} → w ≡ get_or bytes (2 * k) 0 + 256 * get_or bytes (2 * k + 1) 0 → w ≡ word_at bytes k
unfolding word_at
word_is bytes k e = e

-- the writes of a device that is let in are the host's own, since its buffer has 512 bytes
pub writes_by_host : (b x m ws : List ℕ) → Admitted b x m → length x ≡ 512
    → write_words_of step_of ws (device_stored b x) m ≡ write_words_of alone_of ws (device_stored b x) m
writes_by_host b x m ws a l = ready_writes ws (device_stored b x) m (record { ready = a.ready; block = l })
