-- Where DEV hides it, nothing; else the gate over the parts that the bytes hold.
use Rattle.lent.proofs.Lending.{lent_memory, low_bytes}
use Rattle.single.proofs.Parts.{command_gives, ignored_gives}
use mathlib.Core.Path.{sym, ◌∙◌}
use Rattle.single.proofs.command.Goals as goal

pub command-left-requires : goal.command-left-requires
command-left-requires c = lent_memory _ _ _ _ c.requires c.front_at-front.ensures.1

pub returns-then-ignored : goal.returns-then-ignored
returns-then-ignored c = ignored_gives _ _ _ _ _ _ c.requires.formed (low_bytes _ c.fits-state) c.front_at-front.ensures.0 (sym c.ignored.ensures ∙ c.if-ignored.true) c.hidden.ensures

pub returns : goal.returns
returns c = command_gives _ _ _ _ _ _ _ _ _ _ _ c.requires.formed c.front_at-front.ensures.0 c.front_at-front.ensures.1 (sym c.ignored.ensures ∙ c.if-ignored.false) c.command-left.ensures c.put_front.ensures.1 c.put_front.ensures.0 c.done.ensures
