-- A bulk read over lent bytes: what single reads of the device that the bytes hold give, and what they leave, written back.
use Prim.Native.Nat.{ℕ, ◌*◌, ◌/◌, ◌≤◌}
use mathlib.Core.Path.{◌≡◌, refl, sym, ap, subst, ◌∙◌}
use mathlib.Core.Bool.{true}
use mathlib.Core.List.{List, []}
use lib.ListN.{length, take, drop}
use lib.Seq.{sets}
use Rattle.base.proofs.Tests.{false≢true}
use Rattle.settled.specs.declared.Settled.{Settled}
use Rattle.face.specs.Reads.{number_of}
use Rattle.face.specs.declared.Hot.{Hot}
use Rattle.face.specs.declared.Answer.{Answer}
use Rattle.face.specs.declared.Answer.TheVariants.{Done, NoRegister, OutOfShape, WrongLength, NoTransfer, SetupRefused}
use Rattle.device.specs.Alone.{alone_of}
use Rattle.device.specs.declared.Device.{Device}
use Rattle.laws.proofs.Endings.{Bytes}
use Rattle.layout.specs.Stored.{hot_stored, settled_stored, secrets_stored, device_stored}
use Rattle.layout.specs.Bytes.{hot_bytes}
use Rattle.lent.specs.Lent.{host_reply, Lent, left_alone, Admitted, admission_of}
use Rattle.lent.specs.declared.Reply.{Reply}
use Rattle.lent.proofs.Lending.{LowBytes, is_refusal, hot_put}
use Rattle.words.specs.Words.{Handed, read_words_of, words_in}
use Rattle.words.specs.Bulk.{device_with, Reads}
use Rattle.words.specs.declared.Passed.{Passed}
use Rattle.words.proofs.Bytes.{front_length}
use Rattle.words.proofs.Callers.{ready_reads}
use Rattle.bulk.specs.Bulk.{counted_reply, counted_lent, let_in, words_let_in, words_admitted, reads_admitted, read_lent, words_lent, ReadsLent}
use Rattle.bulk.proofs.Few.{few_handed}

-- the device that the bytes hold, by the parts that were read off them
pub of_stored : {A : Type 0} (b x : List ℕ) (h : Hot) (s : Settled) (f : Device → A) → h ≡ hot_stored b → s ≡ settled_stored b
    → f (device_stored b x) ≡ f (device_with h s x (secrets_stored b))
of_stored b x h s f eh es =
    ap (λ (z : Hot). f (device_with z (settled_stored b) x (secrets_stored b))) (sym eh) ∙ ap (λ (z : Settled). f (device_with h z x (secrets_stored b))) (sym es)

-- what the words led to, of the device that the bytes hold
handed_stored : (b x m out : List ℕ) (h : Hot) (s : Settled) (p : Passed) (x' out' : List ℕ) → h ≡ hot_stored b → s ≡ settled_stored b
    → Reads h s x m out p x' out'
    → read_words_of alone_of (length out / 2) (device_stored b x) m
    ≡ record { words = words_in (take (2 * p.words) out'); device = device_with p.hot (settled_stored b) x' (secrets_stored b); sectors = m }
handed_stored b x m out h s p x' out' eh es k =
    of_stored b x h s (λ (d : Device). read_words_of alone_of (length out / 2) d m) eh es
    ∙ k.handed (secrets_stored b)
    ∙ ap (λ (z : Settled). record { words = words_in (take (2 * p.words) out'); device = device_with p.hot z x' (secrets_stored b); sectors = m }) es

words_passed : (out out' : List ℕ) (p : Passed) → length out' ≡ length out → 2 * p.words ≤ length out → length (words_in (take (2 * p.words) out')) ≡ p.words
words_passed out out' p l h = front_length out' p.words (rw (sym l) at h)

pub few_read : (b x m out : List ℕ) (h : Hot) (s : Settled) (p : Passed) (x' out' : List ℕ) → h ≡ hot_stored b → s ≡ settled_stored b
    → Bytes (hot_stored b).transfer → Reads h s x m out p x' out' → p.words ≤ 65536
few_read b x m out h s p x' out' eh es y k =
    let e = handed_stored b x m out h s p x' out' eh es k in
    let f = few_handed (length out / 2) (device_stored b x) m y in
    rw (ap (λ (z : Handed). length z.words) e ∙ words_passed out out' p k.long k.below) at f

pub reads_gives : (b x m out : List ℕ) (h : Hot) (s : Settled) (p : Passed) (r : Reply) (b' x' out' : List ℕ) → Admitted b x m → LowBytes b
    → h ≡ hot_stored b → s ≡ settled_stored b → Reads h s x m out p x' out' → b' ≡ sets b 0 (hot_bytes p.hot)
    → r ≡ counted_reply p.words (length out / 2)
    → ReadsLent (reads_admitted b x m (length out / 2)) (words_admitted b x m (length out / 2)) out r b' x' m out'
reads_gives b x m out h s p r b' x' out' a low eh es k eb er =
    let e = ready_reads (length out / 2) (device_stored b x) m a.ready ∙ handed_stored b x m out h s p x' out' eh es k in
    let l = words_passed out out' p k.long k.below in
    subst
    (λ (z : Handed). ReadsLent (counted_lent (length z.words) (length out / 2) z.device z.sectors) z.words out r b' x' m out')
    (sym e)
    (record {
      gives = record { reply = er ∙ ap (λ (n : ℕ). counted_reply n (length out / 2)) (sym l); state = eb ∙ hot_put b p.hot a.formed low; buffer = refl; sectors = refl };
      words = ap (λ (n : ℕ). words_in (take (2 * n) out')) l;
      long = k.long;
      behind = ap (λ (n : ℕ). drop (2 * n) out') l ∙ k.behind ∙ ap (λ (n : ℕ). drop (2 * n) out) (sym l);
    })

-- let in, the words are read
pub reads_in : (b x m out : List ℕ) (r : Reply) (b' x' out' : List ℕ) → Done ≡ admission_of b m
    → ReadsLent (reads_admitted b x m (length out / 2)) (words_admitted b x m (length out / 2)) out r b' x' m out'
    → ReadsLent (read_lent b x m (length out / 2)) (words_lent b x m (length out / 2)) out r b' x' m out'
reads_in b x m out r b' x' out' e k = rw (sym e) k

-- turned away, a call leaves everything
pub away_left : (b x m : List ℕ) (l : Lent) (w : Answer) → is_refusal w ≡ true → let_in b x m l w ≡ left_alone b x m w
away_left b x m l Done f = absurd (false≢true f)
away_left b x m l NoRegister f = refl
away_left b x m l OutOfShape f = refl
away_left b x m l WrongLength f = refl
away_left b x m l NoTransfer f = refl
away_left b x m l SetupRefused f = refl

no_words : (ws : List ℕ) (w : Answer) → is_refusal w ≡ true → words_let_in ws w ≡ []
no_words ws Done f = absurd (false≢true f)
no_words ws NoRegister f = refl
no_words ws OutOfShape f = refl
no_words ws WrongLength f = refl
no_words ws NoTransfer f = refl
no_words ws SetupRefused f = refl

pub reads_away : (b x m out : List ℕ) (w : Answer) (r : Reply) → w ≡ admission_of b m → is_refusal w ≡ true → r ≡ host_reply (number_of w) 0
    → ReadsLent (read_lent b x m (length out / 2)) (words_lent b x m (length out / 2)) out r b x m out
unfolding words_in
reads_away b x m out w r e f g =
    rw (sym e, away_left b x m (reads_admitted b x m (length out / 2)) w f, no_words (words_admitted b x m (length out / 2)) w f)
    (record { gives = record { reply = g; state = refl; buffer = refl; sectors = refl }; words = refl; long = refl; behind = refl })
