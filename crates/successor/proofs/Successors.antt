-- The successor of sector n names n + 1, or faults exactly at the end; there the registers are what the paper names.
use Prim.Native.Nat.{ℕ, ◌+◌, ◌*◌, ◌/◌, ◌≤◌, ◌<◌}
use native.Mathlib.Nat.{add-zero}
use native.Mathlib.Omega.{arith}
use mathlib.Core.Bool.{Bool, true, false}
use mathlib.Core.Path.{◌≡◌, refl, sym, ap, ◌∙◌}
use mathlib.Core.Logic.{◌⊎◌, inl, inr}
use lib.Dec.{ltb}
use borrow.Author.Tests.{ltb-true, ltb-false}
use Rattle.base.specs.Choice.{pick}
use Rattle.base.proofs.Tests.{either_way}
use Rattle.geometry.specs.Geometry.{geometry_fits, capacity_of}
use Rattle.geometry.specs.Translation.{translation_allowed, product_of}
use Rattle.geometry.specs.declared.Geometry.{Geometry}
use Rattle.geometry.specs.declared.Translation.{Translation}
use Rattle.geometry.proofs.Limits.{capacity_lba}
use Rattle.geometry.proofs.Translations.{allowed_asked, cylinders_few}
use Rattle.address.specs.Registers.{lba_selected, lba_of, cylinder_of, head_of, with_sector, with_cylinder, with_head, with_lba}
use Rattle.address.specs.Address.{names, chs_number, address_of, reach_of}
use Rattle.successor.specs.Successor.{lba_successor, chs_successor, successor_of}
use Rattle.address.specs.declared.AddressRegisters.{AddressRegisters}
use Rattle.address.specs.declared.Sector.{Sector}
use Rattle.address.specs.declared.Address.TheVariants.{Names, Faults}
use Rattle.address.proofs.RoundTrips.{lba_back, head_back, cylinder_back, high_nibble, nibble_mode}
use Rattle.address.proofs.Chs.{Chs, ChsAt, chs_number_at, chs_below}
use Rattle.address.proofs.Addresses.{lba_names, lba_good, lba_bad, chs_names, chs_good, chs_bad}

-- the registers hold cylinder c, head h and sector s
pub record Holds (r : AddressRegisters) (c h s : ℕ) : Type 0 where
  pub cylinder_is : cylinder_of r ≡ c
  pub head_is : head_of r ≡ h
  pub sector_is : r.sector ≡ s

-- bits 7 to 4 of Device/Head stay
pub successor_mode : (t : Translation) (r : AddressRegisters) → (successor_of t r).head / 16 ≡ r.head / 16
unfolding successor_of lba_successor chs_successor
successor_mode t r = go (lba_selected r) (ltb r.sector t.sectors) (ltb (head_of r + 1) t.heads)
  where
    go : (a b c : Bool)
        → (pick a (with_lba r (lba_of r + 1))
        (pick b (with_sector r (r.sector + 1))
        (pick c (with_head (with_sector r 1) (head_of r + 1)) (with_cylinder (with_head (with_sector r 1) 0) (cylinder_of r + 1))))).head / 16 ≡ r.head / 16
    go true b c = high_nibble r.head ((lba_of r + 1) / 16777216)
    go false true c = refl
    go false false true = high_nibble r.head (head_of r + 1)
    go false false false = high_nibble r.head 0

pub successor_selected : (t : Translation) (r : AddressRegisters) → lba_selected (successor_of t r) ≡ lba_selected r
successor_selected t r = nibble_mode r (successor_of t r) (successor_mode t r)

-- LBA: the next number
lba_next : (g : Geometry) (r : AddressRegisters) → geometry_fits g ≡ true → lba_of r < capacity_of g → lba_of (lba_successor r) ≡ lba_of r + 1
unfolding lba_successor
lba_next g r e l = lba_back r (lba_of r + 1) (omega (arith, capacity_lba g e))

-- what a translation that 91h allows tells of its counts
record Counts (t : Translation) : Type 0 where
  few_heads : t.heads ≤ 16
  few_cylinders : t.cylinders ≤ 65535

counts : (g : Geometry) (t : Translation) → translation_allowed g t ≡ true → Counts t
counts g t e =
    let a = allowed_asked g t e in
    record { few_heads = a.1.0; few_cylinders = omega (arith, a.1.1.cylinders, cylinders_few g t.heads t.sectors) }

-- CHS: the successor is good and numbered one more, or the number was the last and the successor is c = cylinders, h = 0, s = 1
record Next (t : Translation) (r q : AddressRegisters) : Type 0 where
  good : ChsAt t q
  more : chs_number_at t q ≡ chs_number_at t r + 1

record Past (t : Translation) (r q : AddressRegisters) : Type 0 where
  last : chs_number_at t r + 1 ≡ product_of t
  at : Holds q t.cylinders 0 1

next_sector : (t : Translation) (r : AddressRegisters) → ChsAt t r → r.sector < t.sectors
    → Next t r (with_sector r (r.sector + 1))
unfolding chs_number cylinder_of head_of
next_sector t r g l =
    record {
      good = record { sector_low = omega arith; sector_high = omega arith; head_below = g.head_below; cylinder_below = g.cylinder_below };
      more = omega (arith, g.sector_low);
    }

next_head : (t : Translation) (r : AddressRegisters) → Counts t → ChsAt t r → t.sectors ≤ r.sector
    → head_of r + 1 < t.heads → Next t r (with_head (with_sector r 1) (head_of r + 1))
unfolding chs_number cylinder_of
next_head t r k g l m =
    let h : head_of (with_head (with_sector r 1) (head_of r + 1)) ≡ head_of r + 1 = head_back (with_sector r 1) (head_of r + 1) (omega (arith, k.few_heads)) in
    record {
      good = record {
        sector_low = omega arith;
        sector_high = omega (arith, g.sector_low, g.sector_high);
        head_below = rw h m;
        cylinder_below = g.cylinder_below;
      };
      more = rw h (omega (arith, g.sector_low, g.sector_high));
    }

-- head 0, sector 1 of the next cylinder
first_of_next : (t : Translation) (r : AddressRegisters) → Counts t → cylinder_of r < t.cylinders
    → Holds (with_cylinder (with_head (with_sector r 1) 0) (cylinder_of r + 1)) (cylinder_of r + 1) 0 1
unfolding head_of
first_of_next t r k l =
    record {
      cylinder_is = cylinder_back (with_head (with_sector r 1) 0) (cylinder_of r + 1) (omega (arith, k.few_cylinders));
      head_is = omega arith;
      sector_is = refl;
    }

-- in the last head's last sector, the number is one below that of the next cylinder's first sector
cylinder_end : (t : Translation) (c h s : ℕ) → Chs t c h s → t.sectors ≤ s → t.heads ≤ h + 1
    → chs_number t c h s + 1 ≡ (c + 1) * t.heads * t.sectors
unfolding chs_number
cylinder_end t c h s g l m =
    let e : t.heads ≡ h + 1 = omega (arith, g.head_below) in
    let k : (c + 1) * t.heads ≡ c * t.heads + h + 1 = omega arith in
    rw k (omega (arith, g.sector_low, g.sector_high))

first_number : (t : Translation) (c : ℕ) → chs_number t c 0 1 ≡ c * t.heads * t.sectors
unfolding chs_number
first_number t c = rw (add-zero (c * t.heads)) (omega arith)

next_cylinder : (t : Translation) (r q : AddressRegisters) → ChsAt t r → t.sectors ≤ r.sector
    → t.heads ≤ head_of r + 1 → cylinder_of r + 1 < t.cylinders → Holds q (cylinder_of r + 1) 0 1 → Next t r q
next_cylinder t r q g l m n a =
    record {
      good = rw (a.cylinder_is, a.head_is, a.sector_is)
          (record {
            sector_low = omega arith;
            sector_high = omega (arith, g.sector_low, g.sector_high);
            head_below = omega (arith, g.head_below);
            cylinder_below = n;
          });
      more = rw (a.cylinder_is, a.head_is, a.sector_is) (first_number t (cylinder_of r + 1) ∙ sym (cylinder_end t (cylinder_of r) (head_of r) r.sector g l m));
    }

past_end : (t : Translation) (r q : AddressRegisters) → ChsAt t r → t.sectors ≤ r.sector
    → t.heads ≤ head_of r + 1 → t.cylinders ≤ cylinder_of r + 1 → Holds q (cylinder_of r + 1) 0 1 → Past t r q
unfolding product_of
past_end t r q g l m n a =
    let c : cylinder_of r + 1 ≡ t.cylinders = omega (arith, g.cylinder_below) in
    record {
      last = cylinder_end t (cylinder_of r) (head_of r) r.sector g l m ∙ ap (λ (k : ℕ). k * t.heads * t.sectors) c;
      at = record { cylinder_is = a.cylinder_is ∙ c; head_is = a.head_is; sector_is = a.sector_is };
    }

chs_next : (t : Translation) (r : AddressRegisters) → Counts t → ChsAt t r
    → Next t r (chs_successor t r) ⊎ Past t r (chs_successor t r)
unfolding chs_successor
chs_next t r k g = sector (ltb r.sector t.sectors) refl
  where
    after : AddressRegisters
    after = with_cylinder (with_head (with_sector r 1) 0) (cylinder_of r + 1)

    cylinder : (b : Bool) → ltb (cylinder_of r + 1) t.cylinders ≡ b → t.sectors ≤ r.sector → t.heads ≤ head_of r + 1 → Next t r after ⊎ Past t r after
    cylinder true e l m = inl (next_cylinder t r after g l m (ltb-true _ _ e) (first_of_next t r k g.cylinder_below))
    cylinder false e l m = inr (past_end t r after g l m (ltb-false _ _ e) (first_of_next t r k g.cylinder_below))

    head : (b : Bool) → ltb (head_of r + 1) t.heads ≡ b → t.sectors ≤ r.sector
        → Next t r (pick b (with_head (with_sector r 1) (head_of r + 1)) after) ⊎ Past t r (pick b (with_head (with_sector r 1) (head_of r + 1)) after)
    head true e l = inl (next_head t r k g l (ltb-true _ _ e))
    head false e l = cylinder (ltb (cylinder_of r + 1) t.cylinders) refl l (ltb-false _ _ e)

    sector : (b : Bool) → ltb r.sector t.sectors ≡ b
        → Next t r (pick b (with_sector r (r.sector + 1)) (pick (ltb (head_of r + 1) t.heads) (with_head (with_sector r 1) (head_of r + 1)) after))
        ⊎ Past t r (pick b (with_sector r (r.sector + 1)) (pick (ltb (head_of r + 1) t.heads) (with_head (with_sector r 1) (head_of r + 1)) after))
    sector true e = inl (next_sector t r g (ltb-true _ _ e))
    sector false e = head (ltb (head_of r + 1) t.heads) refl (ltb-false _ _ e)

-- what an address that names a sector tells, by its kind
lba_named : (g : Geometry) (t : Translation) (r : AddressRegisters) (a : Sector) → lba_selected r ≡ true → address_of g t r ≡ Names a
    → (lba_of r < capacity_of g) × (a.number ≡ lba_of r)
unfolding address_of
lba_named g t r a e n = lba_names (capacity_of g) r a (rw e at n)

chs_named : (g : Geometry) (t : Translation) (r : AddressRegisters) (a : Sector) → lba_selected r ≡ false → address_of g t r ≡ Names a
    → ChsAt t r × (a.number ≡ chs_number_at t r)
unfolding address_of
chs_named g t r a e n = chs_names t r a (rw e at n)

-- how the registers after sector a of a disk stand
record After (g : Geometry) (t : Translation) (r : AddressRegisters) (a : Sector) : Type 0 where
  next : a.number + 1 < reach_of g t r → address_of g t (successor_of t r) ≡ names (a.number + 1)
  end : a.number + 1 ≡ reach_of g t r → address_of g t (successor_of t r) ≡ Faults

after_lba : (g : Geometry) (t : Translation) (r : AddressRegisters) (a : Sector) → geometry_fits g ≡ true → lba_selected r ≡ true
    → address_of g t r ≡ Names a → After g t r a
unfolding address_of successor_of reach_of
after_lba g t r a f e n =
    let old = lba_named g t r a e n in
    let new : lba_of (lba_successor r) ≡ a.number + 1 = lba_next g r f old.0 ∙ ap (λ (k : ℕ). k + 1) (sym old.1) in
    let mode : lba_selected (lba_successor r) ≡ true = rw e at (successor_selected t r) in
    record {
      next = λ l. rw (e, mode) (lba_good (capacity_of g) (lba_successor r) (rw new (rw e at l)) ∙ ap names new);
      end = λ l. rw (e, mode) (lba_bad (capacity_of g) (lba_successor r) (omega (arith, new, rw e at l)));
    }

after_chs : (g : Geometry) (t : Translation) (r : AddressRegisters) (a : Sector) → translation_allowed g t ≡ true → lba_selected r ≡ false
    → address_of g t r ≡ Names a → After g t r a
unfolding address_of successor_of reach_of
after_chs g t r a f e n = go (chs_next t r (counts g t f) old.0)
  where
    old : ChsAt t r × (a.number ≡ chs_number_at t r)
    old = chs_named g t r a e n

    mode : lba_selected (chs_successor t r) ≡ false
    mode = rw e at (successor_selected t r)

    go : Next t r (chs_successor t r) ⊎ Past t r (chs_successor t r) → After g t r a
    go (inl x) =
        let m : chs_number_at t (chs_successor t r) ≡ a.number + 1 =
        x.more ∙ ap (λ (k : ℕ). k + 1) (sym old.1) in
        record {
          next = λ l. rw (e, mode) (chs_good t (chs_successor t r) x.good ∙ ap names m);
          end = λ l. absurd (early (rw e at l) m (chs_below x.good));
        }
      where
        early : {k : ℕ} → a.number + 1 ≡ product_of t → k ≡ a.number + 1 → k < product_of t → ⊥
        early p q s = omega arith
    go (inr x) =
        record {
          next = λ l. absurd (late (rw e at l) x.last old.1);
          end = λ l. rw (e, mode) (chs_bad t (chs_successor t r) (λ c. past c.cylinder_below x.at.cylinder_is));
        }
      where
        late : {k : ℕ} → a.number + 1 < product_of t → k + 1 ≡ product_of t → a.number ≡ k → ⊥
        late p q s = omega arith

        past : {k : ℕ} → k < t.cylinders → k ≡ t.cylinders → ⊥
        past p q = omega arith

after : (g : Geometry) (t : Translation) (r : AddressRegisters) (a : Sector) → geometry_fits g ≡ true → translation_allowed g t ≡ true
    → address_of g t r ≡ Names a → After g t r a
after g t r a f u n = either_way (lba_selected r) (λ e. after_lba g t r a f e n) (λ e. after_chs g t r a u e n)

-- the successor of sector n names n + 1
pub successor_next : (g : Geometry) (t : Translation) (r : AddressRegisters) (a : Sector) → geometry_fits g ≡ true → translation_allowed g t ≡ true
    → address_of g t r ≡ Names a → a.number + 1 < reach_of g t r → address_of g t (successor_of t r) ≡ names (a.number + 1)
successor_next g t r a f u n = (after g t r a f u n).next

-- or it faults, where n was the last that addresses of this kind reach
pub successor_end : (g : Geometry) (t : Translation) (r : AddressRegisters) (a : Sector) → geometry_fits g ≡ true → translation_allowed g t ≡ true
    → address_of g t r ≡ Names a → a.number + 1 ≡ reach_of g t r → address_of g t (successor_of t r) ≡ Faults
successor_end g t r a f u n = (after g t r a f u n).end

-- "the bad address": in LBA the capacity
pub lba_past : (g : Geometry) (t : Translation) (r : AddressRegisters) (a : Sector) → geometry_fits g ≡ true → lba_selected r ≡ true
    → address_of g t r ≡ Names a → a.number + 1 ≡ capacity_of g → lba_of (successor_of t r) ≡ capacity_of g
unfolding successor_of
lba_past g t r a f e n l =
    let old = lba_named g t r a e n in
    rw e (omega (arith, lba_next g r f old.0, old.1))

-- in CHS the registers c = cylinders, h = 0, s = 1
pub chs_past : (g : Geometry) (t : Translation) (r : AddressRegisters) (a : Sector) → translation_allowed g t ≡ true → lba_selected r ≡ false
    → address_of g t r ≡ Names a → a.number + 1 ≡ product_of t → Holds (successor_of t r) t.cylinders 0 1
unfolding successor_of
chs_past g t r a f e n l = rw e (go (chs_next t r (counts g t f) old.0))
  where
    old : ChsAt t r × (a.number ≡ chs_number_at t r)
    old = chs_named g t r a e n

    go : Next t r (chs_successor t r) ⊎ Past t r (chs_successor t r) → Holds (chs_successor t r) t.cylinders 0 1
    go (inl x) = absurd (early x.more (chs_below x.good) old.1)
      where
        early : {j k : ℕ} → j ≡ k + 1 → j < product_of t → a.number ≡ k → ⊥
        early p q s = omega arith
    go (inr x) = x.at
