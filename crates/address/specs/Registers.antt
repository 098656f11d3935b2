-- Registers 3 to 6 as numbers (document 01, "Commands": "Either an address names a sector or it names its fault").
use Rattle.std.specs.Prelude.{ℕ, ◌+◌, ◌*◌, ◌/◌, ◌%◌, Bool, eqb}
use Rattle.address.specs.declared.AddressRegisters.{AddressRegisters}

-- "LBA (Device/Head bit 6)"
unfoldable pub lba_selected : AddressRegisters → Bool
lba_selected r = eqb (r.head / 64 % 2) 1

-- the head nibble: Device/Head bits 3 to 0
unfoldable pub head_of : AddressRegisters → ℕ
head_of r = r.head % 16

-- "28 bits, Sector Number lowest, head nibble highest"
unfoldable pub lba_of : AddressRegisters → ℕ
lba_of r = r.sector + 256 * r.low + 65536 * r.high + 16777216 * head_of r

-- Cylinder Low and Cylinder High
unfoldable pub cylinder_of : AddressRegisters → ℕ
cylinder_of r = r.low + 256 * r.high

-- Device/Head with another head nibble: "always the high nibble of 6" stays
abbrev pub with_nibble : ℕ → ℕ → ℕ
with_nibble head h = head / 16 * 16 + h % 16

-- the registers with another Sector Number
abbrev pub with_sector : AddressRegisters → ℕ → AddressRegisters
with_sector r s = record { sector = s; low = r.low; high = r.high; head = r.head }

-- the registers with the lowest 16 bits of c in the cylinders
abbrev pub with_cylinder : AddressRegisters → ℕ → AddressRegisters
with_cylinder r c = record { sector = r.sector; low = c % 256; high = c / 256 % 256; head = r.head }

-- the registers with the lowest 4 bits of h as head nibble
abbrev pub with_head : AddressRegisters → ℕ → AddressRegisters
with_head r h = record { sector = r.sector; low = r.low; high = r.high; head = with_nibble r.head h }

-- the registers with the lowest 28 bits of n as LBA
abbrev pub with_lba : AddressRegisters → ℕ → AddressRegisters
with_lba r n =
    record {
      sector = n % 256;
      low = n / 256 % 256;
      high = n / 65536 % 256;
      head = with_nibble r.head (n / 16777216);
    }
