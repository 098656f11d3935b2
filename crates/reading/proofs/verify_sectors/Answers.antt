-- As long as all sectors reached were good, the rest decides.
use Rattle.reading.proofs.Verifying.{verifying_bad, verifying_done, verifying_more}
use Rattle.reading.specs.Sectors.{verify_sectors_of}
use Rattle.transfers.specs.Sectors.{not_found_of}
use mathlib.Core.Path.{sym, ◌∙◌}
use native.Mathlib.Omega.{arith}
use Rattle.reading.proofs.verify_sectors.Goals as goal

pub returns-in_default : goal.returns-in_default
unfolding verify_sectors_of not_found_of
returns-in_default c = λ b. rw (← c.after_first-after.ensures, c.missed.ensures) (verifying_bad (c.loop-after.invariant b) c.loop-after-test.true (sym c.located.ensures ∙ c.in_default.is))

pub loop-after-preserved : goal.loop-after-preserved
loop-after-preserved c = λ b. rw c.successor-at.ensures (verifying_more (c.loop-after.invariant b) c.loop-after-test.true _ (sym c.located.ensures ∙ c.in-Names.is))

pub returns : goal.returns
unfolding verify_sectors_of
returns c = λ b. rw (← c.after_first-after.ensures) (c.verify_last.ensures b ∙ verifying_done (c.loop-after.invariant b) (omega arith))
