-- Power-on over the parts that the bytes hold.
use Rattle.layout.specs.Stored.{hot_stored}
use Rattle.single.proofs.Parts.{power_gives}
use Rattle.single.proofs.power_on.Goals as goal

pub returns : goal.returns
returns c = λ m. power_gives _ _ m _ _ _ _ _ _ c.requires c.settled_at-settled.ensures (c.powered_on-front.ensures (hot_stored c.args.state.now)) c.put_front.ensures.1 c.put_front.ensures.0 c.done.ensures
