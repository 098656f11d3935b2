-- What the loop over the records promises to the turn that calls it.
use Rattle.std.specs.Prelude.{ℕ, ◌+◌, ◌-◌, ◌/◌, Bool, ◌≡◌, List, ◌++◌, length, take, drop}
use Rattle.std.proofs.lemmas.List.Edits.{sets}
use Rattle.base.specs.Choice.{pick}
use Rattle.device.specs.Host.{Ready}
use Rattle.device.specs.declared.Device.{Device}
use Rattle.records.specs.Replies.{fault_bytes}
use Rattle.loops.specs.Ways.{stand_at, Way, way_at, swift_of}
use Rattle.playback.specs.Replay.{Play, onto, play_of}
use Rattle.playback.specs.Loops.{whole_of}
use Rattle.player.specs.declared.Came.{Came}
use Rattle.player.specs.declared.Course.{Course}
use Rattle.playback.specs.declared.Stage.{Stage}

-- the records from place `at` on, behind the reply's first `put` bytes
abbrev pub part_of : Bool → Device → List ℕ → List ℕ → ℕ → List ℕ → ℕ → Play
part_of last d m l at out put = onto at (take put out) (play_of last ((length out - put) / 5) d m (drop at l))

-- a result of these parts
abbrev pub came : Device → Stage → ℕ → ℕ → Came
came d stage taken made = record { device = d; stage = stage; taken = taken; made = made }

-- how far that part came
abbrev pub came_of : Play → Came
came_of p = came p.device p.stage p.taken (length p.reply)

-- the records from place `at` on that the hot part and the buffer settle
abbrev pub stretch_way : Device → ℕ → ℕ → ℕ → List ℕ → List ℕ → Way
stretch_way d at put left l out = swift_of left l (way_at (stand_at d.face.hot at put left) d.face.buffer out)

-- the device put together, and where that way came to
abbrev pub course_of : Device → Way → Course
course_of d w =
    record {
      device = whole_of d w.stand.hot w.buffer;
      at = w.stand.at;
      put = w.stand.put;
      left = w.stand.left;
    }

-- the result, every sector and every byte of the lent reply are what the part gives, and the device is still in shape over its memory
pub record Gives (p : Play) (r : Came) (m out₀ out : List ℕ) : Type 0 where
  pub result : r ≡ came_of p
  pub sectors : m ≡ p.sectors
  pub reply : out ≡ p.reply ++ drop (length p.reply) out₀
  pub ready : Ready r.device m

-- a record that is cut short where no byte comes any more adds the fault to the reply
unfoldable pub cut_made : Bool → ℕ → ℕ
cut_made last put = pick last (put + 3) put

-- from `put` on
unfoldable pub cut_reply : Bool → List ℕ → ℕ → List ℕ
cut_reply last out put = pick last (sets out put fault_bytes) out
