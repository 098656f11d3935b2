-- Let in, the call is the device's action; turned away, it leaves everything.
use Rattle.lent.proofs.Lending.{admitted, admitted_long, away_gives, low_bytes, other_refuses, ready_gives}
use mathlib.Core.Path.{sym}
use borrow.Author.Rules.{rules}
use Rattle.single.proofs.host.Goals as goal

pub unwrap-requires : goal.unwrap-requires
unwrap-requires c = c.as_mut_array.ensures.variant.1 (admitted_long _ _ c.in-Done.ensures)

pub step-requires : goal.step-requires
step-requires c = rw ((rw c.unwrap.ensures at c.as_mut_array.ensures.cases).same) (admitted _ _ _ (sym c.in-Done.ensures))

pub returns-in-Done : goal.returns-in-Done
returns-in-Done c = ready_gives _ _ _ _ _ _ _ _ c.in-Done.ensures (rw ((rw c.unwrap.ensures at c.as_mut_array.ensures.cases).same) at c.step.ensures)

pub returns-in_default : goal.returns-in_default
returns-in_default c = away_gives _ _ _ _ _ _ (low_bytes _ (λ i. search rules)) c.admission.ensures (other_refuses _ c.in_default.not-Done) c.refused.ensures
