-- The lengths are right: then it is the device's own setup.
use Rattle.lent.proofs.Settings.{setup_gives}
use borrow.Author.Rules.{rules}
use native.Mathlib.Omega.{arith}
use Rattle.lent.proofs.setup.Goals as goal

pub returns : goal.returns
returns c = setup_gives _ _ _ _ _ _ _ _ _ _ _ _ _ (search rules) (omega arith) (omega arith) c.identity_at-identity.ensures c.password_at-master.ensures c.setup-outcome.ensures c.answered.ensures c.put_device.ensures.0 c.put_device.ensures.1
