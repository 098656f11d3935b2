-- The reply lies within the room.
use Rattle.recording.proofs.Taking.{made_within}
use lib.Seq.{length-take-le}
use mathlib.Core.Path.{sym}
use Rattle.replay.proofs.Replay.round.Goals as goal

pub slice_bounds-put-end : goal.slice_bounds-put-end
slice_bounds-put-end c = sym (length-take-le _ _ (made_within _ _ _ _ _ _ _ _ _ _ _ c.turn-turn.ensures c.turn-turn.auto.out))
