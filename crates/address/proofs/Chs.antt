-- CHS numbering is one-to-one onto 0 .. product - 1: a number is three digits, in bases H and S.
use Prim.Native.Nat.{ℕ, suc, zero, ◌+◌, ◌-◌, ◌*◌, ◌/◌, ◌%◌, ◌≤◌, ◌<◌}
use native.Mathlib.Nat.{mul-le-mul_right, suc-mul, mul-zero, zero-mul, mul-add-div_right, mul-add-mod_self_right, div-eq_of_lt, mod-eq_of_lt, div-add-mod', mod-lt, div-lt_iff_lt-mul}
use native.Mathlib.Omega.{arith}
use mathlib.Core.Path.{◌≡◌, sym, ap, ◌∙◌}
use Rattle.geometry.specs.Translation.{product_of}
use Rattle.geometry.specs.declared.Translation.{Translation}
use Rattle.address.specs.Registers.{cylinder_of, head_of}
use Rattle.address.specs.Address.{chs_number}
use Rattle.address.specs.declared.AddressRegisters.{AddressRegisters}

-- a good CHS address: "s from 1 to S, h below H, c below cylinders"
pub record Chs (t : Translation) (c h s : ℕ) : Type 0 where
  pub sector_low : 1 ≤ s
  pub sector_high : s ≤ t.sectors
  pub head_below : h < t.heads
  pub cylinder_below : c < t.cylinders

-- the address that registers hold is good, and its number
abbrev pub ChsAt : Translation → AddressRegisters → Type 0
ChsAt t r = Chs t (cylinder_of r) (head_of r) r.sector

abbrev pub chs_number_at : Translation → AddressRegisters → ℕ
chs_number_at t r = chs_number t (cylinder_of r) (head_of r) r.sector

-- a digit x below its base b, behind a below m, is below m * b
digit_below : (a b x m : ℕ) → a < m → x < b → a * b + x < m * b
digit_below a b x m h k = omega (arith, mul-le-mul_right {m = suc a} {n = m} b h, suc-mul a b)

pub chs_below : {t : Translation} {c h s : ℕ} → Chs t c h s → chs_number t c h s < product_of t
unfolding chs_number product_of
chs_below {t} {c} {h} {s} g =
    let track = digit_below c t.heads h t.cylinders g.cylinder_below g.head_below in
    omega (arith, g.sector_low, digit_below (c * t.heads + h) t.sectors (s - 1) (t.cylinders * t.heads) track (omega (arith, g.sector_low, g.sector_high)))

-- a number has one last digit and one rest
digits_same : (b a x a' x' : ℕ) → x < b → x' < b → a * b + x ≡ a' * b + x' → (a ≡ a') × (x ≡ x')
digits_same b a x a' x' p q e = (rest a x p ∙ ap (λ (n : ℕ). n / b) e ∙ sym (rest a' x' q), last a x p ∙ ap (λ (n : ℕ). n % b) e ∙ sym (last a' x' q))
  where
    rest : (a x : ℕ) → x < b → a ≡ (a * b + x) / b
    rest a x l =
        let k : 0 < b = omega arith in
        let d : x / b ≡ 0 = div-eq_of_lt l in
        omega (arith, mul-add-div_right k a x)

    last : (a x : ℕ) → x < b → x ≡ (a * b + x) % b
    last a x l = sym (mul-add-mod_self_right a b x ∙ mod-eq_of_lt l)

-- one-to-one: two good addresses with one number are one address
pub chs_one_to_one : {t : Translation} {c h s c' h' s' : ℕ} → Chs t c h s → Chs t c' h' s' → chs_number t c h s ≡ chs_number t c' h' s'
    → (c ≡ c') × ((h ≡ h') × (s ≡ s'))
unfolding chs_number
chs_one_to_one {t} {c} {h} {s} {c'} {h'} {s'} g k e =
    let last = digits_same t.sectors (c * t.heads + h) (s - 1) (c' * t.heads + h') (s' - 1)
    (omega (arith, g.sector_low, g.sector_high)) (omega (arith, k.sector_low, k.sector_high)) (omega (arith, g.sector_low, k.sector_low)) in
    let rest = digits_same t.heads c h c' h' g.head_below k.head_below last.0 in
    (rest.0, (rest.1, omega (arith, last.1, g.sector_low, k.sector_low)))

-- onto: a good address for each number below the product
pub record Numbered (t : Translation) (n : ℕ) : Type 0 where
  pub c : ℕ
  pub h : ℕ
  pub s : ℕ
  pub good : Chs t c h s
  pub is : chs_number t c h s ≡ n

nothing_below : {m n : ℕ} → m ≡ 0 → n < m → ⊥
nothing_below e l = omega arith

-- a product above something has no factor 0
factors_some : (a b n : ℕ) → n < a * b → (0 < a) × (0 < b)
factors_some zero b n l = absurd (nothing_below (zero-mul b) l)
factors_some (suc a) zero n l = absurd (nothing_below (mul-zero (suc a)) l)
factors_some (suc a) (suc b) n l = (omega arith, omega arith)

pub chs_onto : (t : Translation) (n : ℕ) → n < product_of t → Numbered t n
unfolding chs_number product_of
chs_onto t n l =
    record {
      c = n / t.sectors / t.heads;
      h = n / t.sectors % t.heads;
      s = n % t.sectors + 1;
      good = record {
        sector_low = omega arith;
        sector_high = omega (arith, mod-lt n sectors);
        head_below = mod-lt (n / t.sectors) heads;
        cylinder_below = (div-lt_iff_lt-mul heads).1 ((div-lt_iff_lt-mul sectors).1 l);
      };
      is = rw (div-add-mod' (n / t.sectors) t.heads) (omega (arith, div-add-mod' n t.sectors));
    }
  where
    sectors : 0 < t.sectors
    sectors = (factors_some (t.cylinders * t.heads) t.sectors n l).1

    heads : 0 < t.heads
    heads = (factors_some t.cylinders t.heads 0 (factors_some (t.cylinders * t.heads) t.sectors n l).0).1
