-- The registers of the next address (document 01, "Commands": "The successor steps s, then h, then c").
use Rattle.std.specs.Prelude.{◌+◌, ltb}
use Rattle.base.specs.Choice.{pick}
use Rattle.geometry.specs.declared.Translation.{Translation}
use Rattle.address.specs.Registers.{lba_selected, lba_of, cylinder_of, head_of, with_sector, with_cylinder, with_head, with_lba}
use Rattle.address.specs.declared.AddressRegisters.{AddressRegisters}

-- LBA: the number after it
unfoldable pub lba_successor : AddressRegisters → AddressRegisters
lba_successor r = with_lba r (lba_of r + 1)

-- CHS: the next sector of the track, else the first of the next head, else of head 0 of the next cylinder
unfoldable pub chs_successor : Translation → AddressRegisters → AddressRegisters
chs_successor t r =
    pick (ltb r.sector t.sectors) (with_sector r (r.sector + 1))
    (pick (ltb (head_of r + 1) t.heads) (with_head (with_sector r 1) (head_of r + 1))
    (with_cylinder (with_head (with_sector r 1) 0) (cylinder_of r + 1)))

-- the registers of the next address, good or bad
unfoldable pub successor_of : Translation → AddressRegisters → AddressRegisters
successor_of t r = pick (lba_selected r) (lba_successor r) (chs_successor t r)
