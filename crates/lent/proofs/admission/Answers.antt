-- Bytes of another number than 163 are no device's; a device out of shape is turned away before its memory is looked at.
use Rattle.lent.proofs.Lending.{admission_shape, other_length}
use mathlib.Core.Path.{sym, ◌∙◌}
use Rattle.lent.proofs.admission.Goals as goal

pub returns-in_default : goal.returns-in_default
returns-in_default c = other_length _ _ c.in_default.ensures.cases

pub returns-then-not-fits : goal.returns-then-not-fits
returns-then-not-fits c = rw (← c.in-Some.ensures.cases.same) (admission_shape _ _ _ _ (sym c.formed.ensures ∙ c.if-not-formed.false) c.front_at-front.ensures.1 c.front_at-front.ensures.0 (sym c.fits.ensures ∙ c.if-not-fits.true))
