-- Sectors and runs of sectors, and how sector commands end (document 01, "Commands").
use Rattle.std.specs.Prelude.{ℕ, ◌+◌, ◌-◌, ◌*◌, ◌%◌, ◌≡◌, true, List, length}
use Rattle.geometry.specs.Geometry.{capacity_of}
use Rattle.geometry.specs.Translation.{translation_allowed}
use Rattle.geometry.specs.declared.Geometry.{Geometry}
use Rattle.geometry.specs.declared.Translation.{Translation}
use Rattle.address.specs.Address.{address_of}
use Rattle.successor.specs.Successor.{successor_of}
use Rattle.address.specs.declared.AddressRegisters.{AddressRegisters}
use Rattle.address.specs.declared.Address.{Address}
use Rattle.settled.specs.declared.Settled.{Settled}
use Rattle.face.specs.Face.{with_hot}
use Rattle.face.specs.Ends.{finish_of, abort_of, ended_at, idnf_of}
use Rattle.face.specs.declared.Registers.{Registers}
use Rattle.face.specs.declared.Run.{Run}
use Rattle.face.specs.declared.Hot.{Hot}
use Rattle.face.specs.declared.Face.{Face}

-- the lent memory is this disk's: "sector memory is exactly 512 x capacity bytes"; and the translation is one that 91h allows
pub record Memory (g : Geometry) (t : Translation) (m : List ℕ) : Type 0 where
  pub allowed : translation_allowed g t ≡ true
  pub long : length m ≡ 512 * capacity_of g

-- the sector that an address names on this disk, by the translation in force
abbrev pub located : Settled → AddressRegisters → Address
located s at = address_of s.geometry s.translation at

-- "Sector Count 0 is 256": how many sectors come after the first
unfoldable pub after_of : ℕ → ℕ
after_of count = (count + 255) % 256

-- a sector's run, from its first word on
abbrev pub run_at : AddressRegisters → ℕ → Run
run_at at after = record { at = at; after = after; word = 0 }

-- the run of the first sector
abbrev pub first_run : Registers → Run
first_run r = run_at r.at (after_of r.count)

-- the run of the next sector
abbrev pub next_run : Run → Translation → Run
next_run r t = run_at (successor_of t r.at) (r.after - 1)

-- "Abort: Error 04h, Status 51h, registers 2 to 6 kept"
abbrev pub abort_face : Face → Face
abort_face f = with_hot f (abort_of f.hot)

-- a command ends well
abbrev pub finish_face : Face → Face
finish_face f = with_hot f (finish_of f.hot)

-- a sector command ends well: "On success count is 0 and the address is the last sector's"
abbrev pub ended_well : Face → AddressRegisters → Face
ended_well f at = with_hot f (finish_of (ended_at f.hot at 0))

-- "Error 10h, Status 51h, the bad address, and the sectors left including it, 256 shown as 00h"
abbrev pub missed_of : Hot → Run → Hot
missed_of h r = idnf_of h r.at ((r.after + 1) % 256)

-- the same of a face
unfoldable pub not_found_of : Face → Run → Face
not_found_of f r = with_hot f (missed_of f.hot r)
