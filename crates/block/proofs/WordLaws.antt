-- A word that was put is read back, and the other words are as they were.
use Prim.Native.Nat.{ℕ, ◌+◌, ◌*◌, ◌/◌, ◌%◌, ◌≤◌}
use mathlib.Core.Path.{◌≡◌, refl, sym, ◌∙◌}
use mathlib.Core.List.{List, ◌∷◌}
use native.Mathlib.Omega.{arith}
use lib.ListN.{length, get_or, set, length-set}
use lib.Seq.{get_or-set_same, get_or-set_other}
use Rattle.block.specs.Words.{word_at, word_put}

pub put_length : (b : List ℕ) (n w : ℕ) → length (word_put b n w) ≡ length b
unfolding word_put
put_length b n w = simp length-set

pub put_same : (b : List ℕ) (n w : ℕ) → 2 * n + 2 ≤ length b → word_at (word_put b n w) n ≡ w
unfolding word_at word_put
put_same b n w h =
    let lo : get_or (set (set b (2 * n) (w % 256)) (2 * n + 1) (w / 256)) (2 * n) 0 ≡ w % 256 =
    get_or-set_other (set b (2 * n) (w % 256)) (2 * n + 1) (2 * n) (w / 256) 0 apart ∙ get_or-set_same b (2 * n) (w % 256) 0 (omega arith) in
    let hi : get_or (set (set b (2 * n) (w % 256)) (2 * n + 1) (w / 256)) (2 * n + 1) 0 ≡ w / 256 =
    get_or-set_same (set b (2 * n) (w % 256)) (2 * n + 1) (w / 256) 0 (simp length-set (omega arith)) in
    rw (lo, hi) (omega arith)
  where
    apart : 2 * n ≡ 2 * n + 1 → ⊥
    apart q = omega arith

pub put_other : (b : List ℕ) (n m w : ℕ) → (m ≡ n → ⊥) → word_at (word_put b n w) m ≡ word_at b m
unfolding word_at word_put
put_other b n m w k =
    let e : (i : ℕ) → (i ≡ 2 * n → ⊥) → (i ≡ 2 * n + 1 → ⊥) → get_or (set (set b (2 * n) (w % 256)) (2 * n + 1) (w / 256)) i 0 ≡ get_or b i 0 =
    λ i p q. get_or-set_other (set b (2 * n) (w % 256)) (2 * n + 1) i (w / 256) 0 q ∙ get_or-set_other b (2 * n) i (w % 256) 0 p in
    rw (e (2 * m) (λ q. k (omega arith)) (λ q. odd m n q), e (2 * m + 1) (λ q. odd n m (sym q)) (λ q. k (omega arith)))
  where
    odd : (a c : ℕ) → 2 * a ≡ 2 * c + 1 → ⊥
    odd a c q = omega arith

-- "low byte first"
pub low_byte_first : (x y : ℕ) (rest : List ℕ) → word_at (x ∷ y ∷ rest) 0 ≡ x + 256 * y
unfolding word_at
low_byte_first x y rest = refl
