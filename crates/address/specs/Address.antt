-- The sector that registers 3 to 6 name, or that they fault (document 01, "Commands").
use Rattle.std.specs.Prelude.{ℕ, ◌+◌, ◌-◌, ◌*◌, ltb}
use Rattle.base.specs.Choice.{pick, within}
use Rattle.geometry.specs.Geometry.{capacity_of}
use Rattle.geometry.specs.Translation.{product_of}
use Rattle.geometry.specs.declared.Geometry.{Geometry}
use Rattle.geometry.specs.declared.Translation.{Translation}
use Rattle.address.specs.Registers.{lba_selected, lba_of, cylinder_of, head_of}
use Rattle.address.specs.declared.AddressRegisters.{AddressRegisters}
use Rattle.address.specs.declared.Address.{Address}
use Rattle.address.specs.declared.Address.TheVariants.{Names, Faults}

-- the address that names sector n
abbrev pub names : ℕ → Address
names n = Names (record { number = n })

-- LBA: "28 bits .. below capacity"
unfoldable pub lba_address : ℕ → AddressRegisters → Address
lba_address capacity r = pick (ltb (lba_of r) capacity) (names (lba_of r)) Faults

-- CHS: "(c x H + h) x S + s - 1 in the current translation"
unfoldable pub chs_number : Translation → ℕ → ℕ → ℕ → ℕ
chs_number t c h s = (c * t.heads + h) * t.sectors + s - 1

-- CHS: "s from 1 to S, h below H, c below cylinders"
unfoldable pub chs_address : Translation → AddressRegisters → Address
chs_address t r =
    pick (within 1 t.sectors r.sector)
    (pick (ltb (head_of r) t.heads)
    (pick (ltb (cylinder_of r) t.cylinders) (names (chs_number t (cylinder_of r) (head_of r) r.sector)) Faults)
    Faults)
    Faults

-- "Either an address names a sector or it names its fault"
unfoldable pub address_of : Geometry → Translation → AddressRegisters → Address
address_of g t r = pick (lba_selected r) (lba_address (capacity_of g) r) (chs_address t r)

-- how many sectors addresses of this kind reach: in LBA the disk's, in CHS the translation's
unfoldable pub reach_of : Geometry → Translation → AddressRegisters → ℕ
reach_of g t r = pick (lba_selected r) (capacity_of g) (product_of t)
