-- The fast path settles no power-on.
use Rattle.single.proofs.Open.{power_open}
use Rattle.thinnarom.proofs.thinnarom_power_on.Goals as goal

pub rare-requires : goal.rare-requires
rare-requires c = power_open
