-- Numbers 1 to 6 and 11 of document 01, over the definitions, as a single list.
use Rattle.std.specs.Prelude.{Some}
use mathlib.Core.Bool.{false}
use mathlib.Core.Path.{◌≡◌, refl}
use Prim.Native.Nat.{ℕ}
use Rattle.base.specs.Choice.{within}
use Rattle.geometry.specs.Geometry.{geometry_of, capacity_of}
use Rattle.geometry.specs.Translation.{factory_of, cylinders_for, initialized_of}
use Rattle.geometry.specs.declared.Geometry.{Geometry}
use Rattle.address.specs.Registers.{lba_selected, lba_of, cylinder_of, head_of}
use Rattle.address.specs.Address.{names, lba_address, chs_number, chs_address, address_of}
use Rattle.address.specs.declared.AddressRegisters.{AddressRegisters}
use Rattle.address.specs.declared.Address.{Address}
use Rattle.address.specs.declared.Address.TheVariants.{Faults}
use Rattle.address.proofs.Addresses.{sector_0_faults}

-- the disk of 4 x 2 x 8
abbrev pub small : Geometry
small = geometry_of 4 2 8

-- what small's registers name for c/h/s, and for an LBA below 256
abbrev pub at_chs : ℕ → ℕ → ℕ → Address
at_chs c h s = address_of small (factory_of small) (record { sector = s; low = c; high = 0; head = h })

abbrev pub at_lba : ℕ → Address
at_lba n = address_of small (factory_of small) (record { sector = n; low = 0; high = 0; head = 0x40 })

pub record Numbers : Type 0 where
  pub number1 : capacity_of small ≡ 64
  pub number2 : at_chs 0 0 1 ≡ names 0
  pub number3 : at_chs 3 1 8 ≡ names 63
  pub number4 : at_chs 4 0 1 ≡ Faults
  pub number5 : (r : AddressRegisters) → lba_selected r ≡ false → r.sector ≡ 0 → address_of small (factory_of small) r ≡ Faults
  pub number6 : at_lba 64 ≡ Faults
  pub number11 : initialized_of small 8 0 ≡ Some (record { cylinders = 8; heads = 1; sectors = 8 })

pub numbers : Numbers
unfolding capacity_of address_of lba_address chs_address chs_number lba_selected lba_of cylinder_of head_of within initialized_of cylinders_for
numbers = record { number1 = refl; number2 = refl; number3 = refl; number4 = refl; number5 = sector_0_faults small (factory_of small); number6 = refl; number11 = refl }
