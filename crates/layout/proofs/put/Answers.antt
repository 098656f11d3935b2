-- The part that is written is as long as the bytes.
use Rattle.layout.proofs.Puts.{written_sets}
use native.Mathlib.Omega.{arith}
use Rattle.layout.proofs.put.Goals as goal

pub returns : goal.returns
returns c = written_sets _ _ _ _ _ (omega arith) (omega arith) c.copy_from_slice.ensures.after
