-- A named sector lies inside the memory.
use Rattle.transfers.proofs.Reached.{memory_room}
use mathlib.Core.Path.{sym, ◌∙◌}
use Rattle.reading.proofs.read_at.Goals as goal

pub load-requires : goal.load-requires
load-requires c = memory_room c.requires _ _ (sym c.located.ensures ∙ c.in-Names.is)
