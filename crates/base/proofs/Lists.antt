-- Numbers of a list, and a test that holds below a bound: made once over all numbers, and carried to each.
use mathlib.Core.Bool.{Bool, true, false}
use mathlib.Core.Path.{◌≡◌, refl, ap, ◌∙◌}
use mathlib.Core.List.{List, [], ◌∷◌}
use Prim.Native.Nat.{ℕ, zero, suc, ◌<◌}
use native.Mathlib.Omega.{arith}
use borrow.Author.Tests.{eqb-true, eqb-false}
use lib.Dec.{eqb}
use Rattle.base.specs.Choice.{pick}
use Rattle.base.proofs.Tests.{both_true}

-- n is in the list
abbrev pub among : ℕ → List ℕ → Bool
among n [] = false
among n (x ∷ xs) = pick (eqb n x) true (among n xs)

-- the test holds of every number below n
unfoldable pub below : ℕ → (ℕ → Bool) → Bool
below zero p = true
below (suc n) p = pick (p n) (below n p) false

-- so it holds of each
pub below_each : (n : ℕ) (p : ℕ → Bool) → below n p ≡ true → (k : ℕ) → k < n → p k ≡ true
unfolding below
below_each zero p e k h = absurd (omega arith)
below_each (suc n) p e k h = go (below_each n p (both_true (p n) (below n p) e).1 k) (eqb k n) refl
  where
    go : (k < n → p k ≡ true) → (q : Bool) → eqb k n ≡ q → p k ≡ true
    go rest true s = ap p (eqb-true k n s) ∙ (both_true (p n) (below n p) e).0
    go rest false s = rest (let d = eqb-false k n s in omega arith)
