-- Where the fast path settles the action, it is the action; else it has left the buffer.
use Rattle.lent.proofs.Lending.{low_bytes}
use Rattle.single.proofs.Quick.{settle_gives, slow_keeps}
use mathlib.Core.Path.{sym, ◌∙◌}
use Rattle.single.proofs.step.Goals as goal

pub slow-requires : goal.slow-requires
slow-requires c = rw (slow_keeps _ _ _ _ _ c.quick.ensures.0 c.quick.ensures.1 c.in-None.is) (c.requires, rw c.hot_at-hot.ensures at (sym c.quick.ensures.0 ∙ c.in-None.is))

pub returns-in-Some : goal.returns-in-Some
returns-in-Some c = settle_gives _ _ _ _ _ _ _ _ _ c.requires (low_bytes _ c.fits-state) c.hot_at-hot.ensures (sym c.quick.ensures.0 ∙ c.in-Some.is) c.quick.ensures.1 c.settle.ensures.0 c.settle.ensures.1

pub returns-in-None : goal.returns-in-None
returns-in-None c = rw (slow_keeps _ _ _ _ _ c.quick.ensures.0 c.quick.ensures.1 c.in-None.is) at c.slow.ensures
