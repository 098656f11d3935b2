-- The drop, then the clearing.
use Rattle.commands.proofs.Memories.{begun_dropped}
use Rattle.commands.proofs.begun.Goals as goal

pub returns : goal.returns
returns c = simp (c.leaves.ensures.0, c.leaves.ensures.1, c.cleared.ensures) (begun_dropped _ _ c.drop_transfer-dropped.ensures)
