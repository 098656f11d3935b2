-- A geometry is made exactly of counts within the limits, and its capacity is from 1 to the ceilings' product.
use Rattle.std.specs.Prelude.{Some, None}
use Prim.Native.Nat.{ℕ, ◌≤◌, ◌<◌, ◌^◌}
use native.Mathlib.Nat.{mul-le-mul, one-le-mul}
use native.Mathlib.Omega.{arith}
use mathlib.Core.Bool.{Bool, true, false}
use mathlib.Core.Path.{◌≡◌, refl}
use Rattle.base.specs.Choice.{pick, within}
use Rattle.base.proofs.Tests.{both_true, within_low, within_high, within_true}
use Rattle.geometry.specs.Geometry.{max_cylinders, max_heads, max_sectors, max_capacity, geometry_fits, geometry_of, checked_of, capacity_of}
use Rattle.geometry.specs.declared.Geometry.{Geometry}

-- each count is from 1 to its ceiling
pub record Limits (c h s : ℕ) : Type 0 where
  pub some_cylinders : 1 ≤ c
  pub few_cylinders : c ≤ max_cylinders
  pub some_heads : 1 ≤ h
  pub few_heads : h ≤ max_heads
  pub some_sectors : 1 ≤ s
  pub few_sectors : s ≤ max_sectors

pub fits_limits : (g : Geometry) → geometry_fits g ≡ true → Limits g.cylinders g.heads g.sectors
unfolding geometry_fits
fits_limits g e =
    let a = both_true (within 1 max_cylinders g.cylinders) _ e in
    let b = both_true (within 1 max_heads g.heads) (within 1 max_sectors g.sectors) a.1 in
    record {
      some_cylinders = within_low _ _ _ a.0;
      few_cylinders = within_high _ _ _ a.0;
      some_heads = within_low _ _ _ b.0;
      few_heads = within_high _ _ _ b.0;
      some_sectors = within_low _ _ _ b.1;
      few_sectors = within_high _ _ _ b.1;
    }

pub limits_fit : (g : Geometry) → Limits g.cylinders g.heads g.sectors → geometry_fits g ≡ true
unfolding geometry_fits
limits_fit g l =
    simp (
      within_true _ _ _ l.some_cylinders l.few_cylinders,
      within_true _ _ _ l.some_heads l.few_heads,
      within_true _ _ _ l.some_sectors l.few_sectors,
    )

-- what is made has the counts that were asked for
pub checked_within : (c h s : ℕ) (g : Geometry) → checked_of c h s ≡ Some g
    → (g ≡ geometry_of c h s) × Limits c h s
unfolding checked_of
checked_within c h s g e = go (geometry_fits (geometry_of c h s)) refl e
  where
    go : (b : Bool) → geometry_fits (geometry_of c h s) ≡ b
        → pick b (Some (geometry_of c h s)) None ≡ Some g
        → (g ≡ geometry_of c h s) × Limits c h s
    go true p q = (cc, fits_limits (geometry_of c h s) p)
    go false p q = cc

-- what is refused is outside the limits
pub checked_outside : (c h s : ℕ) → checked_of c h s ≡ None → Limits c h s → ⊥
unfolding checked_of
checked_outside c h s e l =
    let f = limits_fit (geometry_of c h s) l in
    let q : Some (geometry_of c h s) ≡ None = simp f at e in
    cc

pub capacity_limits : (g : Geometry) → geometry_fits g ≡ true → (1 ≤ capacity_of g) × (capacity_of g ≤ max_capacity)
unfolding capacity_of max_capacity
capacity_limits g e =
    let l = fits_limits g e in (
      one-le-mul (one-le-mul l.some_cylinders l.some_heads) l.some_sectors,
      mul-le-mul (mul-le-mul l.few_cylinders l.few_heads) l.few_sectors,
    )

-- every sector has a 28-bit number, and one behind the last has one too
pub capacity_lba : (g : Geometry) → geometry_fits g ≡ true → capacity_of g < 2 ^ 28
unfolding max_capacity max_cylinders max_heads max_sectors
capacity_lba g e = omega (arith, (capacity_limits g e).1)

-- "at most 1,032,192"
pub max_capacity_law : max_capacity ≡ 1032192
unfolding max_capacity max_cylinders max_heads max_sectors
max_capacity_law = refl
