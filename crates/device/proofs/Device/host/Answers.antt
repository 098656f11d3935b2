-- The shape holds and the memory is as long as the capacity asks.
use Rattle.device.proofs.Memories.{shaped_memory}
use mathlib.Core.Path.{sym, ◌∙◌}
use Rattle.device.proofs.Device.host.Goals as goal

pub step-requires : goal.step-requires
step-requires c = shaped_memory _ _ (sym c.shaped.ensures ∙ c.if-not-shaped.false) (rw (← c.capacity.ensures) c.if-sectors-capacity.false)
