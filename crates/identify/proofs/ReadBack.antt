-- The block read back: it has 512 bytes, and its word n is word n of the definition.
use Prim.Native.Nat.{ℕ, zero, suc, ◌+◌, ◌*◌, ◌/◌, ◌%◌, ◌<◌}
use mathlib.Core.Path.{◌≡◌, refl, sym, ap, ◌∙◌}
use mathlib.Core.Bool.{Bool, true, false}
use mathlib.Core.List.{List, [], ◌∷◌, ◌++◌}
use native.Mathlib.Omega.{arith}
use borrow.Author.Tests.{ltb-true, ltb-false}
use lib.Dec.{ltb}
use lib.ListN.{length, get_or, get_or-append}
use lib.Seq.{get_or-append-add}
use Rattle.block.specs.Words.{word_at}
use Rattle.settled.specs.declared.Settled.{Settled}
use Rattle.identify.specs.Words.{identify_word}
use Rattle.identify.specs.Identify.{words_of, identify_of}
use Rattle.identify.proofs.Filling.{words_length}

-- the block fills the buffer
pub identify_length : (s : Settled) → length (identify_of s) ≡ 512
unfolding identify_of
identify_length s = words_length s 256

-- word n of the first k words
words_word : (s : Settled) (k n : ℕ) → n < k → word_at (words_of s k) n ≡ identify_word s n
unfolding words_of word_at
words_word s zero n h = absurd (never h)
  where
    never : n < 0 → ⊥
    never q = omega arith
words_word s (suc k) n h = go (λ q. words_word s k n q) (ltb n k) refl
  where
    w : List ℕ
    w = words_of s k

    vs : List ℕ
    vs = identify_word s k % 256 ∷ identify_word s k / 256 ∷ []

    go : (n < k → get_or w (2 * n) 0 + 256 * get_or w (2 * n + 1) 0 ≡ identify_word s n) → (b : Bool) → ltb n k ≡ b
        → get_or (w ++ vs) (2 * n) 0 + 256 * get_or (w ++ vs) (2 * n + 1) 0 ≡ identify_word s n
    go ih true e =
        let q : n < k = ltb-true _ _ e in
        let l : length w ≡ 2 * k = words_length s k in
        let x : get_or (w ++ vs) (2 * n) 0 ≡ get_or w (2 * n) 0 = get_or-append w vs 0 (2 * n) (omega arith) in
        let y : get_or (w ++ vs) (2 * n + 1) 0 ≡ get_or w (2 * n + 1) 0 = get_or-append w vs 0 (2 * n + 1) (omega arith) in
        rw (x, y) (ih q)
    go ih false e =
        let q = ltb-false n k e in
        let l : length w ≡ 2 * k = words_length s k in
        let i : n ≡ k = omega arith in
        let lo : 2 * n ≡ length w + 0 = omega arith in
        let hi : 2 * n + 1 ≡ length w + 1 = omega arith in
        let x : get_or (w ++ vs) (2 * n) 0 ≡ identify_word s k % 256 = ap (λ (j : ℕ). get_or (w ++ vs) j 0) lo ∙ get_or-append-add w vs 0 0 in
        let y : get_or (w ++ vs) (2 * n + 1) 0 ≡ identify_word s k / 256 = ap (λ (j : ℕ). get_or (w ++ vs) j 0) hi ∙ get_or-append-add w vs 1 0 in
        let z : identify_word s k % 256 + 256 * (identify_word s k / 256) ≡ identify_word s k = omega arith in
        rw (x, y) (z ∙ ap (identify_word s) (sym i))

-- word n, for every n of a block
pub identify_word_law : (s : Settled) (n : ℕ) → n < 256 → word_at (identify_of s) n ≡ identify_word s n
unfolding identify_of
identify_word_law s n h = words_word s 256 n h
