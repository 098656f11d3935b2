-- READ and READ VERIFY SECTOR(S), where a sector is reached (document 01, "Commands").
use Rattle.std.specs.Prelude.{ℕ, zero, suc, List}
use Rattle.successor.specs.Successor.{successor_of}
use Rattle.address.specs.declared.AddressRegisters.{AddressRegisters}
use Rattle.address.specs.declared.Address.{Address}
use Rattle.address.specs.declared.Address.TheVariants.{Names, Faults}
use Rattle.block.specs.Sectors.{sector_at}
use Rattle.face.specs.Face.{with_hot, with_buffer}
use Rattle.face.specs.Ends.{raised_of}
use Rattle.face.specs.declared.Run.{Run}
use Rattle.face.specs.declared.Transfer.TheVariants.{Reading}
use Rattle.face.specs.declared.Face.{Face}
use Rattle.transfers.specs.Sectors.{located, after_of, run_at, first_run, ended_well, not_found_of}

-- a sector to be read is reached: "each block to be read" is in the buffer "whole once it is ready", and the interrupt raised
abbrev pub read_as : Face → List ℕ → Run → Address → Face
read_as f m r (Names x) = with_buffer (with_hot f (raised_of f.hot (Reading r))) (sector_at m x.number)
read_as f m r Faults = not_found_of f r

-- "Each sector is checked as it is reached"
unfoldable pub read_at : Face → List ℕ → Run → Face
read_at f m r = read_as f m r (located f.settled r.at)

-- 20h, 21h
unfoldable pub read_sectors_of : Face → List ℕ → Face
read_sectors_of f m = read_at f m (first_run f.hot.regs)

-- a sector to be verified is good, or ends the command
abbrev pub verify_as : Face → Run → Face → Address → Face
verify_as f r rest (Names x) = rest
verify_as f r rest Faults = not_found_of f r

-- the last sector is verified
unfoldable pub verify_last : Face → AddressRegisters → Face
verify_last f at = verify_as f (run_at at 0) (ended_well f at) (located f.settled at)

-- a sector and as many after it are verified
unfoldable pub verify_from : Face → ℕ → AddressRegisters → Face
verify_from f zero at = verify_last f at
verify_from f (suc k) at =
    verify_as f (run_at at (suc k)) (verify_from f k (successor_of f.settled.translation at)) (located f.settled at)

-- 40h, 41h
unfoldable pub verify_sectors_of : Face → Face
verify_sectors_of f = verify_from f (after_of f.hot.regs.count) f.hot.regs.at
