-- The fast path settles no reset.
use Rattle.single.proofs.Open.{reset_open}
use Rattle.thinnarom.proofs.thinnarom_hardware_reset.Goals as goal

pub rare-requires : goal.rare-requires
rare-requires c = reset_open
