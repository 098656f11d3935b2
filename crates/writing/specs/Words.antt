-- Data words of sectors that are written (document 01, "Commands").
use Rattle.std.specs.Prelude.{ℕ, List, ltb}
use Rattle.base.specs.Choice.{pick}
use Rattle.address.specs.declared.Address.{Address}
use Rattle.address.specs.declared.Address.TheVariants.{Names, Faults}
use Rattle.block.specs.Sectors.{stored_at}
use Rattle.face.specs.Face.{with_transfer, with_hot, next_word}
use Rattle.face.specs.Ends.{raised_of}
use Rattle.face.specs.declared.Run.{Run}
use Rattle.face.specs.declared.Transfer.TheVariants.{Writing}
use Rattle.face.specs.declared.Face.{Face}
use Rattle.transfers.specs.Sectors.{located, next_run, ended_well, not_found_of}
use Rattle.transfers.specs.Words.{word_in}

-- "when each block to be written after the first is wanted" the interrupt is raised
abbrev pub want_as : Face → Run → Address → Face
want_as f r (Names x) = with_hot f (raised_of f.hot (Writing r))
want_as f r Faults = not_found_of f r

-- a sector to be written after the first is reached
unfoldable pub want_at : Face → Run → Face
want_at f r = want_as f r (located f.settled r.at)

-- a sector has been stored: the next one is reached, or the write ends
unfoldable pub write_next_of : Face → Run → Face
write_next_of f r = pick (ltb 0 r.after) (want_at f (next_run r f.settled.translation)) (ended_well f r.at)

-- the last word of a sector has arrived, by the sector that the run names
abbrev pub write_last_as : Face → Run → Address → Face
write_last_as f r (Names x) = write_next_of f r
write_last_as f r Faults = not_found_of f r

-- the face at a sector's last word
unfoldable pub write_last_of : Face → Run → Face
write_last_of f r = write_last_as f r (located f.settled r.at)

-- the sectors, by the sector that the run names
abbrev pub store_as : Face → List ℕ → Address → List ℕ
store_as f m (Names x) = stored_at m x.number f.buffer
store_as f m Faults = m

-- the sectors at a sector's last word
unfoldable pub write_last_sectors : Face → List ℕ → Run → List ℕ
write_last_sectors f m r = store_as f m (located f.settled r.at)

-- a word of a sector is written
unfoldable pub write_run_of : Face → Run → ℕ → Face
write_run_of f r w =
    pick (ltb r.word 255) (with_hot (word_in f r.word w) (with_transfer f.hot (Writing (next_word r))))
    (write_last_of (word_in f r.word w) r)

-- "A write stores a sector only when its 256th word arrives"
unfoldable pub write_run_sectors : Face → List ℕ → Run → ℕ → List ℕ
write_run_sectors f m r w = pick (ltb r.word 255) m (write_last_sectors (word_in f r.word w) m r)
