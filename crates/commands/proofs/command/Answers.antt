-- The stations before it leave the disk's measures.
use Rattle.commands.proofs.Memories.{begun_fits}
use Rattle.commands.proofs.command.Goals as goal

pub stations-requires : goal.stations-requires
stations-requires c = begun_fits _ _ c.begun-begun.ensures c.requires
