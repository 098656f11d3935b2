-- What a test that the code made tells of a choice in a definition, and what a choice or a test of limits that came out true tells back.
use mathlib.Core.Bool.{Bool, true, false, ◌&&◌}
use mathlib.Core.Path.{◌≡◌, refl, sym, ◌∙◌}
use Prim.Native.Nat.{ℕ, ◌≤◌}
use lib.Dec.{leb}
use borrow.Author.Tests.{lt-ltb, le-ltb, le-leb, lt-leb, eq-eqb, ne_eqb, leb-true}
pub use Rattle.std.proofs.lemmas.Bool.{false≢true}
use Rattle.base.specs.Choice.{pick, within}

pub picked_true {ℓ} : {A : Type ℓ} (b : Bool) (x a y : A) → b ≡ true → x ≡ a → x ≡ pick b a y
picked_true b x a y h e = rw h e

pub picked_false {ℓ} : {A : Type ℓ} (b : Bool) (x a y : A) → b ≡ false → x ≡ y → x ≡ pick b a y
picked_false b x a y h e = rw h e

-- what holds of both sides of a choice holds of the choice
pub pick_both {ℓ k} : {A : Type ℓ} (P : A → Type k) (b : Bool) (x y : A) → P x → P y → P (pick b x y)
pick_both P true x y p q = p
pick_both P false x y p q = q

-- the same, where each side is handed its test
pub pick_each {ℓ k} : {A : Type ℓ} (P : A → Type k) (b : Bool) (x y : A) → (b ≡ true → P x) → (b ≡ false → P y) → P (pick b x y)
pick_each P true x y p q = p refl
pick_each P false x y p q = q refl

-- whatever a test says
pub either_way {ℓ} : {A : Type ℓ} (b : Bool) → (b ≡ true → A) → (b ≡ false → A) → A
either_way true p q = p refl
either_way false p q = q refl

-- a test that a call answered
pub told_true : (b r : Bool) → r ≡ b → r ≡ true → b ≡ true
told_true b r e h = sym e ∙ h

pub told_false : (b r : Bool) → r ≡ b → r ≡ false → b ≡ false
told_false b r e h = sym e ∙ h

-- for `search`: choices by the code's own tests and by bools that calls gave
pub ruleset picks = (picked_true, picked_false, told_true, told_false, lt-ltb, le-ltb, le-leb, lt-leb, eq-eqb, ne_eqb)

-- a choice against false is true exactly where both tests are
pub both_true : (a b : Bool) → pick a b false ≡ true → (a ≡ true) × (b ≡ true)
both_true true b e = (refl, e)
both_true false b e = absurd (false≢true e)

-- one test more behind those that all held so far
pub and_pick : (a b c : Bool) → (a && b) && c ≡ a && pick b c false
and_pick true true c = refl
and_pick true false c = refl
and_pick false b c = refl

-- x within limits is neither below the low nor above the high one
pub within_low : (low high x : ℕ) → within low high x ≡ true → low ≤ x
unfolding within
within_low low high x e = leb-true _ _ (both_true (leb low x) (leb x high) e).0

pub within_high : (low high x : ℕ) → within low high x ≡ true → x ≤ high
unfolding within
within_high low high x e = leb-true _ _ (both_true (leb low x) (leb x high) e).1

pub within_true : (low high x : ℕ) → low ≤ x → x ≤ high → within low high x ≡ true
unfolding within
within_true low high x p q = rw (le-leb low x p, le-leb x high q)
