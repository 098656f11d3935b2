-- Let in, the words are read; turned away, everything is left.
use Rattle.bulk.proofs.Reading.{reads_away, reads_in}
use Rattle.lent.proofs.Lending.{admitted, admitted_long, other_refuses}
use mathlib.Core.Path.{sym}
use Rattle.bulk.proofs.read_words.Goals as goal

pub unwrap-requires : goal.unwrap-requires
unwrap-requires c = c.as_mut_array.ensures.variant.1 (admitted_long _ _ c.in-Done.ensures)

pub read_admitted-requires : goal.read_admitted-requires
read_admitted-requires c = rw ((rw c.unwrap.ensures at c.as_mut_array.ensures.cases).same) (admitted _ _ _ (sym c.in-Done.ensures))

pub returns-in-Done : goal.returns-in-Done
returns-in-Done c = reads_in _ _ _ _ _ _ _ _ c.in-Done.ensures (rw ((rw c.unwrap.ensures at c.as_mut_array.ensures.cases).same) at c.read_admitted.ensures)

pub returns-in_default : goal.returns-in_default
returns-in_default c = reads_away _ _ _ _ _ _ c.admission.ensures (other_refuses _ c.in_default.not-Done) c.refused.ensures
