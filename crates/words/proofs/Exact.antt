-- The contract of read_words leaves no choice: words settle their bytes, so whatever meets it is one result, one buffer and the same bytes lent for the words.
use mathlib.Core.Path.{◌≡◌, refl, sym, ap, ◌∙◌}
use mathlib.Core.List.{List, [], ◌∷◌, ◌++◌}
use Prim.Native.Nat.{ℕ, suc, ◌+◌, ◌*◌, ◌%◌, ◌≤◌, ◌<◌}
use native.Mathlib.Omega.{arith}
use lib.Dec.{ltb}
use lib.ListN.{length, get_or, take, drop, take-append-drop, length-take, get_or-eq_default}
use lib.Seq.{length-take-le, get_or-take}
use borrow.Author.Tests.{ltb-true, ltb-false}
use Rattle.base.proofs.Tests.{either_way}
use Rattle.lock.specs.declared.Secrets.{Secrets}
use Rattle.settled.specs.declared.Settled.{Settled}
use Rattle.face.specs.declared.Hot.{Hot}
use Rattle.words.specs.Words.{Handed, Taken, words_in}
use Rattle.words.specs.Bulk.{device_with, Reads, Writes}
use Rattle.words.specs.declared.Passed.{Passed}
use Rattle.words.proofs.Bytes.{front_length}

-- bytes of whole words are settled by these words
pub words_settle : (xs ys : List ℕ) → length xs % 2 ≡ 0 → length ys % 2 ≡ 0 → ((i : ℕ) → get_or xs i 0 < 256) → ((i : ℕ) → get_or ys i 0 < 256)
    → words_in xs ≡ words_in ys → xs ≡ ys
unfolding words_in
words_settle [] [] p q f g e = refl
words_settle [] (y ∷ []) p q f g e = absurd (omega arith)
words_settle [] (y ∷ v ∷ ys) p q f g e = absurd (let l = ap length e in omega arith)
words_settle (x ∷ []) ys p q f g e = absurd (omega arith)
words_settle (x ∷ u ∷ xs) [] p q f g e = absurd (let l = ap length e in omega arith)
words_settle (x ∷ u ∷ xs) (y ∷ []) p q f g e = absurd (omega arith)
words_settle (x ∷ u ∷ xs) (y ∷ v ∷ ys) p q f g e =
    let head : x + 256 * u ≡ y + 256 * v = ap (λ (l : List ℕ). get_or l 0 0) e in
    let a : x < 256 = f 0 in
    let b : y < 256 = g 0 in
    let low : x ≡ y = omega arith in
    let high : u ≡ v = omega arith in
    let rest : xs ≡ ys = words_settle xs ys (omega arith) (omega arith) (λ i. f (suc (suc i))) (λ i. g (suc (suc i))) (ap (λ (l : List ℕ). drop 1 l) e) in
    λ i. low i ∷ (high i ∷ rest i)

-- ---- reads

part_byte : (n : ℕ) (l : List ℕ) → ((i : ℕ) → get_or l i 0 < 256) → (i : ℕ) → get_or (take n l) i 0 < 256
part_byte n l f i =
    either_way (ltb i n)
    (λ e. rw (get_or-take n l i 0 (ltb-true i n e)) (f i))
    (λ e. let k = ltb-false i n e in let q : get_or (take n l) i 0 ≡ 0 = get_or-eq_default (take n l) 0 (simp length-take (omega arith)) in omega arith)

-- two results of one call of read_words are the same
pub record Same (r r' : Passed) (after after' written written' : List ℕ) : Type 0 where
  pub words : r.words ≡ r'.words
  pub hot : r.hot ≡ r'.hot
  pub buffer : after ≡ after'
  pub bytes : written ≡ written'

-- what single reads give, as two results say it
abbrev handed_as : Settled → List ℕ → Passed → List ℕ → List ℕ → Handed
handed_as s m r after written =
    record { words = words_in (take (2 * r.words) written); device = device_with r.hot s after (record { user = []; master = [] }); sectors = m }

reads_same : (s : Settled) (m : List ℕ) (r r' : Passed) (after after' written written' : List ℕ) → handed_as s m r after written ≡ handed_as s m r' after' written'
    → 2 * r.words ≤ length written → 2 * r'.words ≤ length written' → ((i : ℕ) → get_or written i 0 < 256) → ((i : ℕ) → get_or written' i 0 < 256)
    → (out : List ℕ) → drop (2 * r.words) written ≡ drop (2 * r.words) out → drop (2 * r'.words) written' ≡ drop (2 * r'.words) out
    → Same r r' after after' written written'
reads_same s m r r' after after' written written' e l l' f f' out g g' =
    record {
      words = count;
      hot = ap (λ (h : Handed). h.device.face.hot) e;
      buffer = ap (λ (h : Handed). h.device.face.buffer) e;
      bytes = sym (take-append-drop (2 * r.words) written) ∙ (λ i. front i ++ back i) ∙ take-append-drop (2 * r'.words) written';
    }
  where
    count : r.words ≡ r'.words
    count = sym (front_length written r.words l) ∙ ap (λ (h : Handed). length h.words) e ∙ front_length written' r'.words l'

    even : (l : List ℕ) (n : ℕ) → 2 * n ≤ length l → length (take (2 * n) l) % 2 ≡ 0
    even l n h = let q : length (take (2 * n) l) ≡ 2 * n = length-take-le (2 * n) l h in omega arith

    front : take (2 * r.words) written ≡ take (2 * r'.words) written'
    front =
        words_settle (take (2 * r.words) written) (take (2 * r'.words) written') (even written r.words l) (even written' r'.words l')
        (part_byte (2 * r.words) written f) (part_byte (2 * r'.words) written' f') (ap (λ (h : Handed). h.words) e)

    back : drop (2 * r.words) written ≡ drop (2 * r'.words) written'
    back = g ∙ ap (λ (n : ℕ). drop (2 * n) out) count ∙ sym g'

pub reads_exact : {h : Hot} {s : Settled} {b m out : List ℕ} {r r' : Passed} {after after' written written' : List ℕ}
    → Reads h s b m out r after written → Reads h s b m out r' after' written' → ((i : ℕ) → get_or written i 0 < 256) → ((i : ℕ) → get_or written' i 0 < 256)
    → Same r r' after after' written written'
reads_exact {s = s} {m = m} {out = out} {r = r} {r' = r'} {after = after} {after' = after'} {written = written} {written' = written'} k k' f f' =
    let l : length written ≡ length out = k.long in
    let l' : length written' ≡ length out = k'.long in
    let u : 2 * r.words ≤ length out = k.below in
    let u' : 2 * r'.words ≤ length out = k'.below in
    reads_same s m r r' after after' written written' (sym (k.handed (record { user = []; master = [] })) ∙ k'.handed (record { user = []; master = [] }))
    (omega arith) (omega arith) f f' out k.behind k'.behind

-- ---- writes

-- two results of one call of write_words are the same
pub writes_exact : {h : Hot} {s : Settled} {b m bytes : List ℕ} {r r' : Passed} {after after' sectors sectors' : List ℕ}
    → Writes h s b m bytes r after sectors → Writes h s b m bytes r' after' sectors'
    → (r.words ≡ r'.words) × (r.hot ≡ r'.hot) × (after ≡ after') × (sectors ≡ sectors')
writes_exact k k' =
    let x : Secrets = record { user = []; master = [] } in
    let both = sym (k.taken x) ∙ k'.taken x in (
      ap (λ (t : Taken). t.count) both,
      ap (λ (t : Taken). t.device.face.hot) both,
      ap (λ (t : Taken). t.device.face.buffer) both,
      ap (λ (t : Taken). t.sectors) both,
    )
