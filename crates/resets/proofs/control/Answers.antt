-- Bit 2 decides; a soft reset leaves the same of whatever the hot part was.
use Rattle.base.proofs.Tests.{picks}
use Rattle.resets.specs.Control.{control_of}
use native.Mathlib.Omega.{arith}
use Rattle.resets.proofs.control.Goals as goal

pub returns-then-srst : goal.returns-then-srst
unfolding control_of
returns-then-srst c = grind (arith, picks, c.soft_reset.ensures c.args.front.hot)
