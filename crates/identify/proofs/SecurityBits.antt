-- The bits of word 128 read one by one: each says what the paper says of it, and no other is set.
use Prim.Native.Nat.{ℕ, ◌+◌, ◌*◌, ◌/◌, ◌%◌, ◌≤◌}
use mathlib.Core.Path.{◌≡◌}
use mathlib.Core.Bool.{Bool, true, false}
use native.Mathlib.Omega.{arith}
use Rattle.base.specs.Choice.{pick}
use Rattle.lock.specs.Lock.{is_locked, is_frozen, exhausted_of}
use Rattle.lock.specs.declared.Security.{Security}
use Rattle.identify.specs.SecurityWord.{security_word}

-- 1 for a bit that is set, else 0
abbrev pub flag : Bool → ℕ
flag set = pick set 1 0

-- w has the bits of s and no others
pub record Bits (s : Security) (w : ℕ) : Type 0 where
  pub bit0 : w % 2 ≡ 1
  pub bit1 : w / 2 % 2 ≡ flag s.enabled
  pub bit2 : w / 4 % 2 ≡ flag (is_locked s.lock)
  pub bit3 : w / 8 % 2 ≡ flag (is_frozen s.lock)
  pub bit4 : w / 16 % 2 ≡ flag (exhausted_of s)
  pub bits5_7 : w / 32 % 8 ≡ 0
  pub bits8_15 : w / 256 ≡ flag s.maximum

-- a bit adds its weight or nothing
weight : (w : ℕ) (set : Bool) → pick set w 0 ≡ w * flag set
weight w true = omega arith
weight w false = omega arith

flag_limit : (set : Bool) → flag set ≤ 1
flag_limit true = omega arith
flag_limit false = omega arith

-- the lowest binary digit of q
digit : (q low rest : ℕ) → q ≡ low + 2 * rest → low ≤ 1 → q % 2 ≡ low
digit q low rest e l = omega arith

eighths : (q rest : ℕ) → q ≡ 8 * rest → q % 8 ≡ 0
eighths q rest e = omega arith

-- "bit 0 supported, 1 enabled, 2 locked, 3 frozen, 4 no attempts left, 8 level Maximum"
pub security_bits : (s : Security) → Bits s (security_word s)
unfolding security_word
security_bits s =
    let e : pick s.enabled 2 0 ≡ 2 * flag s.enabled = weight 2 s.enabled in
    let l : pick (is_locked s.lock) 4 0 ≡ 4 * flag (is_locked s.lock) = weight 4 (is_locked s.lock) in
    let f : pick (is_frozen s.lock) 8 0 ≡ 8 * flag (is_frozen s.lock) = weight 8 (is_frozen s.lock) in
    let x : pick (exhausted_of s) 16 0 ≡ 16 * flag (exhausted_of s) = weight 16 (exhausted_of s) in
    let m : pick s.maximum 256 0 ≡ 256 * flag s.maximum = weight 256 s.maximum in
    let e' : flag s.enabled ≤ 1 = flag_limit s.enabled in
    let l' : flag (is_locked s.lock) ≤ 1 = flag_limit (is_locked s.lock) in
    let f' : flag (is_frozen s.lock) ≤ 1 = flag_limit (is_frozen s.lock) in
    let x' : flag (exhausted_of s) ≤ 1 = flag_limit (exhausted_of s) in
    let m' : flag s.maximum ≤ 1 = flag_limit s.maximum in
    record {
      bit0 = omega arith;
      bit1 = omega arith;
      bit2 = digit _ (flag (is_locked s.lock)) (flag (is_frozen s.lock) + 2 * flag (exhausted_of s) + 32 * flag s.maximum) (omega arith) l';
      bit3 = digit _ (flag (is_frozen s.lock)) (flag (exhausted_of s) + 16 * flag s.maximum) (omega arith) f';
      bit4 = digit _ (flag (exhausted_of s)) (8 * flag s.maximum) (omega arith) x';
      bits5_7 = eighths _ (flag s.maximum) (omega arith);
      bits8_15 = omega arith;
    }
