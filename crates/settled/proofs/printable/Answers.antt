-- The fold over the bytes is whether all are printable.
use Rattle.std.proofs.lemmas.Iterator.{YieldsList-from_slice}
use Rattle.std.proofs.lemmas.Iterator.Consumers.{fold_from_yields_List}
use Rattle.settled.proofs.Printing.{fold_printable}
use Rattle.settled.specs.Identity.{plain}
use mathlib.Core.Bool.{true, ◌&&◌}
use mathlib.Core.Path.{◌∙◌}
use borrow.Author.Rules.{rules}
use borrow.Author.Tests.{tests}
use Rattle.settled.proofs.printable.Goals as goal

pub returns : goal.returns
returns c =
    fold_from_yields_List _ (λ a x. a && plain x) true _ c.fold.ensures.ran
    (YieldsList-from_slice c.args.text.now (cc))
    (λ a x r q k. search (rules, tests))
    ∙ fold_printable c.args.text.now
