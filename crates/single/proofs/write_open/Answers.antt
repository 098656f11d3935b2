-- Of the registers that the fast path leaves open, 7 and 8 are known.
use Rattle.lent.proofs.Lending.{low_bytes}
use Rattle.single.proofs.Parts.{unknown_gives}
use native.Mathlib.Omega.{arith}
use Rattle.single.proofs.write_open.Goals as goal

pub returns-in-7 : goal.returns-in-7
returns-in-7 c = rw c.in-7.is c.command.ensures

pub returns-in-8 : goal.returns-in-8
returns-in-8 c = rw c.in-8.is (c.control.ensures _)

pub returns-in_default : goal.returns-in_default
returns-in_default c = unknown_gives _ _ _ _ _ _ c.requires.0.formed (low_bytes _ c.fits-state) c.requires.1 (λ e. omega arith) (λ e. omega arith) c.refused.ensures
