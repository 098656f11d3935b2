-- Over memory of 64 sectors, cleared, one turn from the start.
use Rattle.block.proofs.SectorLaws.{zeroed_length}
use Rattle.recording.proofs.Whole.{replay_ready, replays, replays_nothing}
use lib.ListN.{length}
use mathlib.Core.Path.{ap, ◌∙◌}
use Rattle.recording.proofs.replay.Goals as goal

pub returns-then-sectors-ne32768 : goal.returns-then-sectors-ne32768
returns-then-sectors-ne32768 c = rw c.number.ensures (replays_nothing _ _ _ c.if-sectors-ne32768.true)

pub part-p-requires : goal.part-p-requires
part-p-requires c = replay_ready _ _ c.start-stream.ensures (ap length c.zero.ensures ∙ zeroed_length _ ∙ c.if-sectors-ne32768.false)

pub returns : goal.returns
returns c =
    rw c.number-2.ensures
    (replays _ _ _ _ _ _ _ _ _ c.if-sectors-ne32768.false c.start-stream.ensures c.zero.ensures c.part-p.ensures c.over.ensures)
