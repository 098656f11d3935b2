-- Its parts are the definition's, powered on.
use Rattle.device.proofs.fresh.Goals as goal

pub returns : goal.returns
returns c = simp (c.powered_on-face.ensures, c.with_settled.ensures, c.fresh-settled.ensures, c.fresh-secrets.ensures)
