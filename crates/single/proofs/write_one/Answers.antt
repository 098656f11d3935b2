-- A word that passes is done; one that does not is turned away.
use Rattle.single.proofs.Words.{word_le_bytes, write_done, write_none}
use native.Mathlib.Omega.{arith}
use Rattle.single.proofs.write_one.Goals as goal

pub returns-then-reply-eq0 : goal.returns-then-reply-eq0
returns-then-reply-eq0 c = write_done c.args.state.now c.args.buffer.now c.args.sectors.now _ _ _ _ _ _ _ (word_le_bytes _ _ (omega arith) c.to_le_bytes-bytes.ensures) c.write_admitted-reply.ensures c.if-reply-eq0.true c.done.ensures

pub returns : goal.returns
returns c = write_none c.args.state.now c.args.buffer.now c.args.sectors.now _ _ _ _ _ _ (word_le_bytes _ _ (omega arith) c.to_le_bytes-bytes.ensures) c.write_admitted-reply.ensures c.if-reply-eq0.false
