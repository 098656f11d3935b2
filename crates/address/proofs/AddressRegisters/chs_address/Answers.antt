-- The sector is 1 at least, so what 1 is taken from is.
use Rattle.base.proofs.Tests.{within_low}
use mathlib.Core.Path.{sym, ◌∙◌}
use native.Mathlib.Omega.{arith}
use Rattle.address.proofs.AddressRegisters.chs_address.Goals as goal

pub overflow_sub-number : goal.overflow_sub-number
overflow_sub-number c = omega (arith, within_low _ _ _ (sym c.within.ensures ∙ c.if-within.true))
