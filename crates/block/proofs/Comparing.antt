-- The fold that compares two passwords, and what the comparison means: they are equal as lists.
use mathlib.Core.Path.{◌≡◌, refl, ◌∙◌}
use mathlib.Core.Bool.{Bool, true, false, ◌&&◌}
use mathlib.Core.List.{List, [], ◌∷◌}
use Prim.Native.Nat.{ℕ}
use native.Mathlib.Omega.{arith}
use borrow.Author.Tests.{eq-eqb, eqb-true}
use lib.Dec.{eqb}
use lib.ListN.{length}
use Rattle.base.proofs.Tests.{false≢true, both_true, and_pick}
use Rattle.block.specs.Passwords.{same}
use Rattle.std.specs.List.{fold, zip}

-- equal lists are the same
pub same_refl : (xs : List ℕ) → same xs xs ≡ true
unfolding same
same_refl [] = refl
same_refl (x ∷ xs) = rw (eq-eqb x x refl) (same_refl xs)

-- and only they are
pub same_true : (xs ys : List ℕ) → same xs ys ≡ true → xs ≡ ys
unfolding same
same_true [] [] e = refl
same_true [] (y ∷ ys) e = absurd (false≢true e)
same_true (x ∷ xs) [] e = absurd (false≢true e)
same_true (x ∷ xs) (y ∷ ys) e =
    let b = both_true (eqb x y) (same xs ys) e in
    let p : x ≡ y = eqb-true x y b.0 in
    let q : xs ≡ ys = same_true xs ys b.1 in
    cc

-- a fold over the pairs of bytes, from `equal` on
fold_pairs : (equal : Bool) (xs ys : List ℕ) → length xs ≡ length ys
    → fold (λ (e : Bool) (p : ℕ × ℕ). e && eqb p.0 p.1) equal (zip xs ys) ≡ equal && same xs ys
unfolding same
fold_pairs true [] [] e = refl
fold_pairs false [] [] e = refl
fold_pairs equal [] (y ∷ ys) e = absurd (omega arith)
fold_pairs equal (x ∷ xs) [] e = absurd (omega arith)
fold_pairs equal (x ∷ xs) (y ∷ ys) e = fold_pairs (equal && eqb x y) xs ys (omega arith) ∙ and_pick equal (eqb x y) (same xs ys)

pub fold_same : (xs ys : List ℕ) → length xs ≡ length ys → fold (λ (e : Bool) (p : ℕ × ℕ). e && eqb p.0 p.1) true (zip xs ys) ≡ same xs ys
fold_same xs ys e = fold_pairs true xs ys e
