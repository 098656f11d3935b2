-- A replay in turns: each takes up what it can of the bytes that are there, into the room that is there (document 01, "Replay").
use Rattle.std.specs.Prelude.{ℕ, ◌-◌, ◌/◌, Bool, true, ◌≡◌, List, [], ◌∷◌, ◌++◌, ltb, eqb, length, get_or, take, drop}
use Rattle.std.proofs.lemmas.List.Edits.{sets}
use Rattle.base.specs.Choice.{pick}
use Rattle.block.specs.Sectors.{zeroed}
use Rattle.face.specs.Reads.{number_of}
use Rattle.face.specs.declared.Answer.{Answer}
use Rattle.face.specs.declared.Answer.TheVariants.{Done, OutOfShape, WrongLength}
use Rattle.device.specs.Host.{shaped_of, memory_length}
use Rattle.device.specs.declared.Device.{Device}
use Rattle.playback.specs.Replay.{is_over, Play, rests, onto, play_of, version_fault, replay_device, zero_sectors}
use Rattle.playback.specs.declared.Stage.{Stage}
use Rattle.playback.specs.declared.Stage.TheVariants.{Opening, Replaying, Over}
use Rattle.recording.specs.declared.Stream.{Stream}
use Rattle.recording.specs.declared.Turn.{Turn}
use Rattle.recording.specs.declared.Replayed.{Replayed}

-- a replay before its first byte
abbrev pub start_of : Stream
start_of = record { device = replay_device; stage = Opening }

-- the records behind the version byte, which is answered by 01h
abbrev pub behind_version : Bool → ℕ → Device → List ℕ → List ℕ → Play
behind_version last room d m l = onto 1 (1 ∷ []) (play_of last ((room - 1) / 5) d m (drop 1 l))

-- the version byte, where there is one
unfoldable pub open_of : Bool → ℕ → Device → List ℕ → List ℕ → Play
open_of last room d m l =
    pick (ltb (length l) 1) (pick last (rests d m version_fault Over) (rests d m [] Opening))
    (pick (eqb (get_or l 0 0) 1) (behind_version last room d m l)
    (rests d m version_fault Over))

-- what the bytes l give by where the replay stands, into that much room: 5 bytes for a record, 4 to open
unfoldable pub turn_as : Stage → Bool → ℕ → Device → List ℕ → List ℕ → Play
turn_as Opening last room d m l = pick (ltb room 4) (rests d m [] Opening) (open_of last room d m l)
turn_as Replaying last room d m l = play_of last (room / 5) d m l
turn_as Over last room d m l = rests d m [] Over

-- what a turn leaves: its result, every sector, the window, and the reply that it wrote
pub record Turned : Type 0 where
  pub turn : Turn
  pub sectors : List ℕ
  pub window : List ℕ
  pub reply : List ℕ

-- a turn that was taken: the bytes that it did not use up stand at the front of the window
abbrev pub taken_of : List ℕ → List ℕ → Play → Turned
taken_of window l p =
    record {
      turn =
          record {
            number = number_of Done;
            stream = record { device = p.device; stage = p.stage };
            held = length l - p.taken;
            made = length p.reply;
          };
      sectors = p.sectors;
      window = sets window 0 (drop p.taken l);
      reply = p.reply;
    }

-- the result of a turn that was turned away
abbrev pub away_of : Stream → ℕ → Answer → Turn
away_of s held a = record { number = number_of a; stream = s; held = held; made = 0 }

-- "everything unchanged"
abbrev pub turned_away : Stream → List ℕ → List ℕ → ℕ → Answer → Turned
turned_away s m window held a = record { turn = away_of s held a; sectors = m; window = window; reply = [] }

-- one turn over the first `held` bytes of the window: "Order: .. 2, 3"
unfoldable pub turn_of : Stream → List ℕ → List ℕ → ℕ → Bool → ℕ → Turned
turn_of s m window held last room =
    pick (shaped_of s.device)
    (pick (eqb (length m) (memory_length s.device))
    (taken_of window (take held window) (turn_as s.stage last room s.device m (take held window)))
    (turned_away s m window held WrongLength))
    (turned_away s m window held OutOfShape)

-- the result, every sector, every byte of the window and every byte of the lent reply are the turn's
pub record Leaves (t : Turned) (r : Turn) (m w out₀ out : List ℕ) : Type 0 where
  pub result : r ≡ t.turn
  pub sectors : m ≡ t.sectors
  pub window : w ≡ t.window
  pub reply : out ≡ t.reply ++ drop (length t.reply) out₀

-- a whole recording in one turn, over memory that it first clears; memory of another length is left alone
unfoldable pub whole_play : List ℕ → List ℕ → ℕ → Play
whole_play l m room =
    pick (eqb (length m) (length zero_sectors)) (turn_as Opening true room replay_device (zeroed m) l)
    (rests replay_device m [] Opening)

-- "sector memory of wrong length"
abbrev pub length_answer : List ℕ → Answer
length_answer m = pick (eqb (length m) (length zero_sectors)) Done WrongLength

-- how many bytes of reply there are, and whether that is all of it
abbrev pub replayed : Answer → Play → Replayed
replayed a p = record { number = number_of a; made = length p.reply; whole = is_over p.stage }

-- the result of a whole recording
abbrev pub replayed_of : List ℕ → List ℕ → ℕ → Replayed
replayed_of l m room = replayed (length_answer m) (whole_play l m room)
