-- A Command is left open whatever the device is.
use Rattle.single.proofs.Open.{command_open}
use Rattle.single.proofs.write_register.Goals as goal

pub rare-requires : goal.rare-requires
rare-requires c = command_open _ _ c.if-n-eq7.true
