-- Power-on leaves the same of whatever the hot part was.
use mathlib.Core.Path.{◌∙◌}
use Rattle.disk.proofs.powered_on.Goals as goal

pub returns : goal.returns
returns c = c.with_buffer.ensures ∙ c.powered_on-front.ensures c.args.face.hot
