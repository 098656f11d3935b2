-- A recording that comes in pieces: the turns that take them, and what is still to come (document 01, "Replay").
use Rattle.std.specs.Prelude.{ℕ, false, List, [], ◌∷◌, ◌++◌, drop}
use Rattle.device.specs.declared.Device.{Device}
use Rattle.playback.specs.Replay.{Play, records_reply, reply_from}
use Rattle.playback.specs.declared.Stage.{Stage}
use Rattle.playback.specs.declared.Stage.TheVariants.{Opening, Replaying, Over}
use Rattle.recording.specs.Turns.{turn_as}

-- the reply that is still to come, where the bytes l are all that still come
unfoldable pub to_come : Stage → Device → List ℕ → List ℕ → List ℕ
to_come Opening d m l = reply_from d m l
to_come Replaying d m l = records_reply d m l
to_come Over d m l = []

-- a piece of the recording, and the room for its reply
pub record Piece : Type 0 where
  pub bytes : List ℕ
  pub room : ℕ

-- the bytes of all pieces
unfoldable pub joined : List Piece → List ℕ
joined [] = []
joined (p ∷ ps) = p.bytes ++ joined ps

-- the turn that takes a piece up, behind the bytes that are held
abbrev pub turn_on : Stage → Device → List ℕ → List ℕ → Piece → Play
turn_on stage d m held p = turn_as stage false p.room d m (held ++ p.bytes)

-- what the turns reply to all pieces, each behind the bytes that the turns before it did not use up, and what then is still to come
unfoldable pub streamed_of : Stage → Device → List ℕ → List ℕ → List Piece → List ℕ
streamed_of stage d m held [] = to_come stage d m held
streamed_of stage d m held (p ∷ ps) =
    (turn_on stage d m held p).reply
    ++ streamed_of (turn_on stage d m held p).stage (turn_on stage d m held p).device (turn_on stage d m held p).sectors
    (drop (turn_on stage d m held p).taken (held ++ p.bytes)) ps
