-- Which translations 91h makes: the counts asked for, as many cylinders as the capacity holds, and never more sectors than the disk has.
use Rattle.std.specs.Prelude.{Option, Some, None}
use Prim.Native.Nat.{ℕ, min, ◌+◌, ◌-◌, ◌*◌, ◌/◌, ◌≤◌, ◌<◌}
use native.Mathlib.Nat.{mul-le-mul_right, mul-pos, min-le_left, min-le_right, min-eq_left, div-mul-le_self, lt-div-mul-add, mul_assoc, mul-div_cancel, le_trans, add-mul}
use native.Mathlib.Omega.{arith}
use mathlib.Core.Bool.{Bool, true, false}
use mathlib.Core.Path.{◌≡◌, refl, sym, ap₂, ◌∙◌}
use mathlib.Core.Logic.{◌⊎◌, inl, inr}
use lib.Dec.{eqb}
use borrow.Author.Tests.{eq-eqb, ne_eqb, eqb-true, eqb-false}
use Rattle.base.specs.Choice.{within}
use Rattle.base.proofs.Tests.{both_true, within_low, within_high, within_true, false≢true}
use Rattle.geometry.specs.Geometry.{max_cylinders, max_heads, geometry_fits, capacity_of}
use Rattle.geometry.specs.Translation.{factory_of, heads_asked, cylinders_for, translation_of, initialized_of, same_cylinders, translation_allowed, product_of}
use Rattle.geometry.specs.declared.Geometry.{Geometry}
use Rattle.geometry.specs.declared.Translation.{Translation}
use Rattle.geometry.proofs.Limits.{fits_limits}

-- t is what 91h makes of h heads and s sectors
pub record Asked (g : Geometry) (h s : ℕ) (t : Translation) : Type 0 where
  pub heads : t.heads ≡ h
  pub sectors : t.sectors ≡ s
  pub cylinders : t.cylinders ≡ cylinders_for g h s
  pub some_sectors : 1 ≤ s
  pub some_cylinders : 1 ≤ cylinders_for g h s

-- 91h aborts for one of two reasons, or makes what was asked for
record Aborts (g : Geometry) (s head : ℕ) : Type 0 where
  is : initialized_of g s head ≡ None
  reason : (s ≡ 0) ⊎ (cylinders_for g (heads_asked head) s ≡ 0)

record Makes (g : Geometry) (s head : ℕ) : Type 0 where
  is : initialized_of g s head ≡ Some (translation_of g (heads_asked head) s)
  some_sectors : 1 ≤ s
  some_cylinders : 1 ≤ cylinders_for g (heads_asked head) s

initialized : (g : Geometry) (s head : ℕ) → Aborts g s head ⊎ Makes g s head
unfolding initialized_of
initialized g s head = go (eqb s 0) (eqb (cylinders_for g (heads_asked head) s) 0) refl refl
  where
    go : (a b : Bool) → eqb s 0 ≡ a → eqb (cylinders_for g (heads_asked head) s) 0 ≡ b → Aborts g s head ⊎ Makes g s head
    go true b p q = inl (record { is = rw p; reason = inl (eqb-true s 0 p) })
    go false true p q = inl (record { is = rw (p, q); reason = inr (eqb-true _ 0 q) })
    go false false p q =
        let u : s ≡ 0 → ⊥ = eqb-false s 0 p in
        let v : cylinders_for g (heads_asked head) s ≡ 0 → ⊥ = eqb-false _ 0 q in
        inr (record { is = rw (p, q); some_sectors = omega arith; some_cylinders = omega arith })

pub initialized_to : (g : Geometry) (s head : ℕ) (t : Translation) → initialized_of g s head ≡ Some t → Asked g (heads_asked head) s t
initialized_to g s head t e = go (initialized g s head)
  where
    go : Aborts g s head ⊎ Makes g s head → Asked g (heads_asked head) s t
    go (inl x) = let a = x.is in cc
    go (inr x) =
        let a = x.is in
        let m : translation_of g (heads_asked head) s ≡ t = cc in
        record { heads = cc; sectors = cc; cylinders = cc; some_sectors = x.some_sectors; some_cylinders = x.some_cylinders }

pub initialized_aborted : (g : Geometry) (s head : ℕ) → initialized_of g s head ≡ None → (s ≡ 0) ⊎ (cylinders_for g (heads_asked head) s ≡ 0)
initialized_aborted g s head e = go (initialized g s head)
  where
    go : Aborts g s head ⊎ Makes g s head → (s ≡ 0) ⊎ (cylinders_for g (heads_asked head) s ≡ 0)
    go (inl x) = x.reason
    go (inr x) = let a = x.is in cc

-- and what is asked for with some sectors and some cylinders is made
pub to_initialized : (g : Geometry) (s head : ℕ) (t : Translation) → Asked g (heads_asked head) s t → initialized_of g s head ≡ Some t
unfolding initialized_of
to_initialized g s head t a =
    let u : s ≡ 0 → ⊥ = λ q. absent a.some_sectors q in
    let v : cylinders_for g (heads_asked head) s ≡ 0 → ⊥ = λ q. absent a.some_cylinders q in
    let m : Some (translation_of g (heads_asked head) s) ≡ Some t = rw (← a.cylinders, ← a.heads, ← a.sectors) in
    simp (ne_eqb s 0 u, ne_eqb (cylinders_for g (heads_asked head) s) 0 v) m
  where
    absent : {n : ℕ} → 1 ≤ n → n ≡ 0 → ⊥
    absent p q = omega arith

-- heads that a nibble can ask for
own_nibble : (h : ℕ) → 1 ≤ h → h ≤ 16 → heads_asked (h - 1) ≡ h
own_nibble h low high = omega arith

-- an allowed translation is what 91h makes of its own heads and sectors
pub allowed_asked : (g : Geometry) (t : Translation) → translation_allowed g t ≡ true
    → (1 ≤ t.heads) × ((t.heads ≤ 16) × Asked g t.heads t.sectors t)
unfolding translation_allowed
allowed_asked g t e = (low, (high, go (initialized_of g t.sectors (t.heads - 1)) refl b.1))
  where
    b : (within 1 16 t.heads ≡ true) × (same_cylinders t (initialized_of g t.sectors (t.heads - 1)) ≡ true)
    b = both_true (within 1 16 t.heads) (same_cylinders t (initialized_of g t.sectors (t.heads - 1))) e

    low : 1 ≤ t.heads
    low = within_low _ _ _ b.0

    high : t.heads ≤ 16
    high = within_high _ _ _ b.0

    go : (i : Option Translation) → initialized_of g t.sectors (t.heads - 1) ≡ i → same_cylinders t i ≡ true → Asked g t.heads t.sectors t
    go (Some made) p q =
        let a = rw (own_nibble t.heads low high) at (initialized_to g t.sectors (t.heads - 1) made p) in
        let c : made.cylinders ≡ t.cylinders = eqb-true _ _ q in
        record { heads = refl; sectors = refl; cylinders = sym c ∙ a.cylinders; some_sectors = a.some_sectors; some_cylinders = a.some_cylinders }
    go None p q = absurd (false≢true q)

pub asked_allowed : (g : Geometry) (t : Translation) → 1 ≤ t.heads → t.heads ≤ 16 → Asked g t.heads t.sectors t
    → translation_allowed g t ≡ true
unfolding translation_allowed
asked_allowed g t low high a =
    let i : initialized_of g t.sectors (t.heads - 1) ≡ Some t =
    to_initialized g t.sectors (t.heads - 1) t (rw (own_nibble t.heads low high) a) in
    simp (within_true 1 16 t.heads low high, i, eq-eqb t.cylinders t.cylinders refl)

-- so "one that 91h allows" is: 91h makes it of some Sector Count and Device/Head
pub allowed_made : (g : Geometry) (t : Translation) → translation_allowed g t ≡ true → initialized_of g t.sectors (t.heads - 1) ≡ Some t
allowed_made g t e =
    let a = allowed_asked g t e in
    to_initialized g t.sectors (t.heads - 1) t (rw (own_nibble t.heads a.0 a.1.0) a.1.1)

pub made_allowed : (g : Geometry) (s head : ℕ) (t : Translation) → initialized_of g s head ≡ Some t → translation_allowed g t ≡ true
made_allowed g s head t e =
    let a = initialized_to g s head t e in
    let c : t.cylinders ≡ cylinders_for g t.heads t.sectors = a.cylinders ∙ ap₂ (cylinders_for g) (sym a.heads) (sym a.sectors) in
    asked_allowed g t (omega (arith, a.heads)) (omega (arith, a.heads))
    (record {
      heads = refl;
      sectors = refl;
      cylinders = c;
      some_sectors = omega (arith, a.sectors, a.some_sectors);
      some_cylinders = omega (arith, c, a.cylinders, a.some_cylinders);
    })

-- cylinders are counted in 16 bits
pub cylinders_few : (g : Geometry) (h s : ℕ) → cylinders_for g h s ≤ 65535
unfolding cylinders_for
cylinders_few g h s = min-le_right _ _

-- the cylinders fit the disk
pub cylinders_fit : (g : Geometry) (h s : ℕ) → cylinders_for g h s * h * s ≤ capacity_of g
unfolding cylinders_for
cylinders_fit g h s =
    let m : min (capacity_of g / (h * s)) 65535 * (h * s) ≤ capacity_of g / (h * s) * (h * s) = mul-le-mul_right (h * s) (min-le_left _ _) in
    rw (mul_assoc (min (capacity_of g / (h * s)) 65535) h s) (le_trans m (div-mul-le_self (capacity_of g) (h * s)))

-- and one more would not, where 16 bits could count it
pub cylinders_most : (g : Geometry) (h s : ℕ) → 1 ≤ h → 1 ≤ s → cylinders_for g h s < 65535 → capacity_of g < (cylinders_for g h s + 1) * (h * s)
unfolding cylinders_for
cylinders_most g h s p q r =
    let few : capacity_of g / (h * s) ≤ 65535 = omega arith in
    let d : capacity_of g < capacity_of g / (h * s) * (h * s) + h * s = lt-div-mul-add (mul-pos p q) in
    rw (min-eq_left few) (omega (arith, d, add-mul (capacity_of g / (h * s)) 1 (h * s)))

-- "a translation's product is at most capacity"
pub product_below : (g : Geometry) (t : Translation) → translation_allowed g t ≡ true → product_of t ≤ capacity_of g
unfolding product_of
product_below g t e =
    let a = (allowed_asked g t e).1.1 in
    rw a.cylinders (cylinders_fit g t.heads t.sectors)

-- the factory translation reaches the whole disk, and is one that 91h allows
pub factory_product : (g : Geometry) → product_of (factory_of g) ≡ capacity_of g
unfolding product_of capacity_of
factory_product g = refl

factory_cylinders : (g : Geometry) → geometry_fits g ≡ true → cylinders_for g g.heads g.sectors ≡ g.cylinders
unfolding cylinders_for capacity_of max_cylinders
factory_cylinders g e =
    let l = fits_limits g e in
    rw (mul_assoc g.cylinders g.heads g.sectors, mul-div_cancel g.cylinders (mul-pos l.some_heads l.some_sectors))
    (min-eq_left (omega (arith, l.few_cylinders)))

pub factory_allowed : (g : Geometry) → geometry_fits g ≡ true → translation_allowed g (factory_of g) ≡ true
unfolding max_heads
factory_allowed g e =
    let l = fits_limits g e in
    let whole = factory_cylinders g e in
    asked_allowed g (factory_of g) l.some_heads l.few_heads
    (record { heads = refl; sectors = refl; cylinders = sym whole; some_sectors = l.some_sectors; some_cylinders = rw whole l.some_cylinders })
