-- A word that passes is the value; one that does not is turned away.
use Rattle.single.proofs.Words.{read_done, read_none}
use mathlib.Core.Path.{refl}
use Rattle.single.proofs.read_one.Goals as goal

pub returns-then-reply-eq0 : goal.returns-then-reply-eq0
returns-then-reply-eq0 c = read_done _ _ _ _ _ _ _ _ _ _ c.requires refl c.read_admitted-reply.ensures c.if-reply-eq0.true c.pair.ensures c.done.ensures

pub returns : goal.returns
returns c = read_none _ _ _ _ _ _ _ _ c.requires refl c.read_admitted-reply.ensures c.if-reply-eq0.false
