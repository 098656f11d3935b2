-- WRITE SECTOR(S), where its first sector is reached (document 01, "Commands").
use Rattle.address.specs.declared.Address.{Address}
use Rattle.address.specs.declared.Address.TheVariants.{Names, Faults}
use Rattle.face.specs.Face.{with_transfer, with_hot}
use Rattle.face.specs.declared.Run.{Run}
use Rattle.face.specs.declared.Transfer.TheVariants.{Writing}
use Rattle.face.specs.declared.Face.{Face}
use Rattle.transfers.specs.Sectors.{located, first_run, not_found_of}

-- the first block to be written raises nothing
abbrev pub write_as : Face → Run → Address → Face
write_as f r (Names x) = with_hot f (with_transfer f.hot (Writing r))
write_as f r Faults = not_found_of f r

-- the first sector to be written is reached
unfoldable pub write_at : Face → Run → Face
write_at f r = write_as f r (located f.settled r.at)

-- 30h, 31h
unfoldable pub write_sectors_of : Face → Face
write_sectors_of f = write_at f (first_run f.hot.regs)
