-- What is written to a part of the memory is pasted there.
use Rattle.std.proofs.lemmas.Slice.{put_mid-paste}
use Rattle.block.specs.Sectors.{stored_at}
use native.Mathlib.Omega.{arith}
use Rattle.block.proofs.store.Goals as goal

pub returns : goal.returns
unfolding stored_at
returns c = put_mid-paste _ _ _ _ c.args.block 512 c.copy_from_slice.ensures.after (omega arith) (omega arith)
