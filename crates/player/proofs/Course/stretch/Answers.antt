-- Where the inner loops end is where they stand, with the device put together.
use Rattle.player.proofs.Ends.{stretch_stands, stretch_fewer}
use Rattle.player.proofs.Course.stretch.Goals as goal

pub returns-clause-stands : goal.returns-clause-stands
returns-clause-stands c = rw c.whole.ensures (stretch_stands _ _ _ _ _ _ _ (rw c.standing-here.ensures c.requires) c.swift-far.ensures)

pub returns-clause-fewer : goal.returns-clause-fewer
returns-clause-fewer c = rw c.standing-here.ensures at (stretch_fewer _ _ _ _ _ _ _ c.swift-far.ensures)
