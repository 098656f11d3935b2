-- When registers name a sector and when they fault, as facts on numbers; a named sector is below the capacity.
use Prim.Native.Nat.{ℕ, ◌≤◌, ◌<◌}
use native.Mathlib.Nat.{lt_of_lt_of_le}
use native.Mathlib.Omega.{arith}
use mathlib.Core.Bool.{Bool, true, false}
use mathlib.Core.Path.{◌≡◌, refl, sym, ap}
use lib.Dec.{ltb}
use borrow.Author.Tests.{lt-ltb, le-ltb, ltb-true}
use Rattle.base.specs.Choice.{pick, within}
use Rattle.base.proofs.Tests.{within_low, within_high, within_true}
use Rattle.geometry.specs.Geometry.{capacity_of}
use Rattle.geometry.specs.Translation.{translation_allowed, product_of}
use Rattle.geometry.specs.declared.Geometry.{Geometry}
use Rattle.geometry.specs.declared.Translation.{Translation}
use Rattle.geometry.proofs.Translations.{product_below}
use Rattle.address.specs.Registers.{lba_selected, lba_of, cylinder_of, head_of}
use Rattle.address.specs.Address.{names, lba_address, chs_address, address_of, reach_of}
use Rattle.address.specs.declared.AddressRegisters.{AddressRegisters}
use Rattle.address.specs.declared.Sector.{Sector}
use Rattle.address.specs.declared.Address.{Address}
use Rattle.address.specs.declared.Address.TheVariants.{Names, Faults}
use Rattle.address.proofs.Chs.{ChsAt, chs_number_at, chs_below}

-- a choice that could have faulted and names a sector was made by a test that held
named : (b : Bool) (x : Address) (a : Sector) → pick b x Faults ≡ Names a → (b ≡ true) × (x ≡ Names a)
named true x a e = (refl, e)
named false x a e = cc

numbered : (n : ℕ) (a : Sector) → names n ≡ Names a → n ≡ a.number
numbered n a e = let s : record { number = n } ≡ a = cc in ap (λ (x : Sector). x.number) s

-- LBA
pub lba_names : (capacity : ℕ) (r : AddressRegisters) (a : Sector) → lba_address capacity r ≡ Names a → (lba_of r < capacity) × (a.number ≡ lba_of r)
unfolding lba_address
lba_names capacity r a e =
    let s = named (ltb (lba_of r) capacity) (names (lba_of r)) a e in
    (ltb-true _ _ s.0, sym (numbered (lba_of r) a s.1))

pub lba_good : (capacity : ℕ) (r : AddressRegisters) → lba_of r < capacity → lba_address capacity r ≡ names (lba_of r)
unfolding lba_address
lba_good capacity r l = rw (lt-ltb _ _ l)

pub lba_bad : (capacity : ℕ) (r : AddressRegisters) → capacity ≤ lba_of r → lba_address capacity r ≡ Faults
unfolding lba_address
lba_bad capacity r l = rw (le-ltb _ _ l)

-- CHS
pub chs_names : (t : Translation) (r : AddressRegisters) (a : Sector) → chs_address t r ≡ Names a
    → ChsAt t r × (a.number ≡ chs_number_at t r)
unfolding chs_address
chs_names t r a e =
    let s = named (within 1 t.sectors r.sector) _ a e in
    let h = named (ltb (head_of r) t.heads) _ a s.1 in
    let c = named (ltb (cylinder_of r) t.cylinders) (names (chs_number_at t r)) a h.1 in (
      record {
        sector_low = within_low _ _ _ s.0;
        sector_high = within_high _ _ _ s.0;
        head_below = ltb-true _ _ h.0;
        cylinder_below = ltb-true _ _ c.0;
      },
      sym (numbered _ a c.1),
    )

pub chs_good : (t : Translation) (r : AddressRegisters) → ChsAt t r
    → chs_address t r ≡ names (chs_number_at t r)
unfolding chs_address
chs_good t r g =
    rw (within_true _ _ _ g.sector_low g.sector_high, lt-ltb _ _ g.head_below, lt-ltb _ _ g.cylinder_below)

-- exactly the other CHS addresses fault
pub chs_bad : (t : Translation) (r : AddressRegisters) → (ChsAt t r → ⊥) → chs_address t r ≡ Faults
chs_bad t r bad = go (chs_address t r) refl
  where
    go : (a : Address) → chs_address t r ≡ a → chs_address t r ≡ Faults
    go (Names a) e = absurd (bad (chs_names t r a e).0)
    go Faults e = e

-- "sector 0 faults", on every disk, in every translation
pub sector_0_faults : (g : Geometry) (t : Translation) (r : AddressRegisters) → lba_selected r ≡ false → r.sector ≡ 0 → address_of g t r ≡ Faults
unfolding address_of
sector_0_faults g t r e z = rw e (chs_bad t r (λ c. none c.sector_low z))
  where
    none : {n : ℕ} → 1 ≤ n → n ≡ 0 → ⊥
    none p q = omega arith

-- a named sector is among those that addresses of its kind reach
pub address_reach : (g : Geometry) (t : Translation) (r : AddressRegisters) (a : Sector) → address_of g t r ≡ Names a → a.number < reach_of g t r
unfolding address_of reach_of
address_reach g t r a e = go (lba_selected r) e
  where
    go : (b : Bool) → pick b (lba_address (capacity_of g) r) (chs_address t r) ≡ Names a → a.number < pick b (capacity_of g) (product_of t)
    go true p = let l = lba_names (capacity_of g) r a p in omega (arith, l.0, l.1)
    go false p = let c = chs_names t r a p in omega (arith, chs_below c.0, c.1)

-- and on the disk
pub reach_capacity : (g : Geometry) (t : Translation) (r : AddressRegisters) → translation_allowed g t ≡ true → reach_of g t r ≤ capacity_of g
unfolding reach_of
reach_capacity g t r e = go (lba_selected r)
  where
    go : (b : Bool) → pick b (capacity_of g) (product_of t) ≤ capacity_of g
    go true = omega arith
    go false = product_below g t e

-- "a good address is below capacity"
pub address_below : (g : Geometry) (t : Translation) (r : AddressRegisters) (a : Sector) → translation_allowed g t ≡ true
    → address_of g t r ≡ Names a → a.number < capacity_of g
address_below g t r a e n = lt_of_lt_of_le (address_reach g t r a n) (reach_capacity g t r e)
