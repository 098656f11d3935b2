-- What moves to the front is put there as it stood.
use Rattle.recording.proofs.Keeping.{front_moved}
use mathlib.Core.Path.{◌∙◌}
use Rattle.recording.proofs.keep.Goals as goal

pub returns : goal.returns
returns c = c.copy_within.ensures.after ∙ front_moved c.args.window.now c.args.from c.args.to c.requires.0 c.requires.1
