-- A named sector lies inside the memory.
use Rattle.transfers.proofs.Reached.{memory_room}
use mathlib.Core.Path.{sym, ◌∙◌}
use Rattle.writing.proofs.write_last.Goals as goal

pub store-requires : goal.store-requires
store-requires c = memory_room c.requires _ _ (sym c.located.ensures ∙ c.in-Names.is)
