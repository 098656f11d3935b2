-- The fold over the pairs of bytes is the comparison.
use Rattle.std.proofs.lemmas.Iterator.{YieldsList-from_slice, YieldsList-from_zip}
use Rattle.std.proofs.lemmas.Iterator.Consumers.{fold_from_yields_List}
use Rattle.block.proofs.Comparing.{fold_same}
use mathlib.Core.Bool.{true, ◌&&◌}
use mathlib.Core.Path.{◌∙◌}
use lib.Dec.{eqb}
use borrow.Author.Rules.{rules}
use borrow.Author.Tests.{tests}
use Rattle.block.proofs.same.Goals as goal

pub returns : goal.returns
returns c =
    fold_from_yields_List _ (λ e p. e && eqb p.0 p.1) true _ c.fold.ensures.ran
    (YieldsList-from_zip (YieldsList-from_slice c.args.a (cc)) (YieldsList-from_slice c.args.b (cc)))
    (λ e p r q k. search (rules, tests))
    ∙ fold_same c.args.a c.args.b (search rules)
