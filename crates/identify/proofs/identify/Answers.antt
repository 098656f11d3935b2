-- After each turn one word more stands in the block.
use Rattle.identify.specs.Identify.{words_of}
use Rattle.identify.proofs.Filling.{one_more, whole}
use borrow.Author.Rules.{rules}
use native.Mathlib.Omega.{arith}
use Rattle.identify.proofs.identify.Goals as goal

pub loop-n-init : goal.loop-n-init
unfolding words_of
loop-n-init c = search rules

pub loop-n-preserved : goal.loop-n-preserved
loop-n-preserved c =
    record {
      long = c.put_word.array_long;
      is = rw c.put_word.ensures (one_more _ _ _ _ c.loop-n.invariant.long (omega arith) c.loop-n.invariant.is c.identify_word.ensures);
    }

pub returns : goal.returns
returns c = whole _ _ _ c.loop-n.invariant.long (omega arith) c.loop-n.invariant.is
