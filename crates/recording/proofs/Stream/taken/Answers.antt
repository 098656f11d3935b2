-- The loop over the bytes held, then those that it did not use up move to the front.
use Rattle.recording.proofs.Taking.{came_end, leaves_taken}
use native.Mathlib.Omega.{arith}
use Rattle.recording.proofs.Stream.taken.Goals as goal

pub keep-requires : goal.keep-requires
keep-requires c = (came_end _ _ _ _ _ _ _ _ _ _ c.min-end.ensures c.part-p.ensures, omega arith)

pub overflow_sub-result : goal.overflow_sub-result
overflow_sub-result c = came_end _ _ _ _ _ _ _ _ _ _ c.min-end.ensures c.part-p.ensures

pub returns : goal.returns
returns c = leaves_taken _ _ _ _ _ _ _ _ _ _ _ c.min-end.ensures c.part-p.ensures c.keep.ensures
