-- Device Control over the parts that the bytes hold.
use Rattle.single.proofs.Parts.{control_gives}
use Rattle.single.proofs.control.Goals as goal

pub returns : goal.returns
returns c = λ m. control_gives _ _ m _ _ _ _ _ _ _ _ c.requires c.front_at-front.ensures.0 c.front_at-front.ensures.1 c.control-left.ensures c.put_front.ensures.1 c.put_front.ensures.0 c.done.ensures
