-- Numbers put into registers 3 to 6 are read back, numbers read are put back, and the mode bits of Device/Head stay.
use Prim.Native.Nat.{ℕ, ◌/◌, ◌%◌, ◌<◌, ◌^◌}
use native.Mathlib.Omega.{arith}
use mathlib.Core.Path.{◌≡◌, refl, ap}
use lib.Dec.{eqb}
use Rattle.address.specs.Registers.{lba_selected, lba_of, cylinder_of, head_of, with_nibble, with_cylinder, with_head, with_lba}
use Rattle.address.specs.declared.AddressRegisters.{AddressRegisters}

pub lba_back : (r : AddressRegisters) (n : ℕ) → n < 2 ^ 28 → lba_of (with_lba r n) ≡ n
unfolding lba_of head_of
lba_back r n h = omega arith

pub cylinder_back : (r : AddressRegisters) (c : ℕ) → c < 2 ^ 16 → cylinder_of (with_cylinder r c) ≡ c
unfolding cylinder_of
cylinder_back r c h = omega arith

pub head_back : (r : AddressRegisters) (h : ℕ) → h < 16 → head_of (with_head r h) ≡ h
unfolding head_of
head_back r h l = omega arith

-- registers 3 to 5 hold bytes
pub record Bytes (r : AddressRegisters) : Type 0 where
  pub sector_byte : r.sector < 256
  pub low_byte : r.low < 256
  pub high_byte : r.high < 256

registers : ℕ → ℕ → ℕ → ℕ → AddressRegisters
registers sector low high head = record { sector = sector; low = low; high = high; head = head }

same_registers : (r q : AddressRegisters) → r.sector ≡ q.sector → r.low ≡ q.low → r.high ≡ q.high → r.head ≡ q.head → r ≡ q
unfolding registers
same_registers r q a b c d =
    let e : registers r.sector r.low r.high r.head ≡ registers q.sector q.low q.high q.head = cc in e

pub lba_put_back : (r : AddressRegisters) → Bytes r → with_lba r (lba_of r) ≡ r
unfolding lba_of head_of
lba_put_back r b = same_registers _ r (omega arith) (omega arith) (omega arith) (omega arith)

pub cylinder_put_back : (r : AddressRegisters) → Bytes r → with_cylinder r (cylinder_of r) ≡ r
unfolding cylinder_of
cylinder_put_back r b = same_registers _ r refl (omega arith) (omega arith) refl

pub head_put_back : (r : AddressRegisters) → with_head r (head_of r) ≡ r
unfolding head_of
head_put_back r = same_registers _ r refl refl refl (omega arith)

-- another nibble leaves bits 7 to 4 of Device/Head
pub high_nibble : (head h : ℕ) → with_nibble head h / 16 ≡ head / 16
high_nibble head h = omega arith

-- so it leaves the choice of LBA or CHS
pub nibble_mode : (r q : AddressRegisters) → q.head / 16 ≡ r.head / 16 → lba_selected q ≡ lba_selected r
unfolding lba_selected
nibble_mode r q e =
    let m : q.head / 64 % 2 ≡ r.head / 64 % 2 = omega arith in
    ap (λ (n : ℕ). eqb n 1) m
