-- Three pieces, one behind the other.
use Rattle.layout.proofs.Puts.{put_identity}
use borrow.Author.Rules.{rules}
use Rattle.layout.proofs.put_identity.Goals as goal

pub returns : goal.returns
returns c = rw (c.put-3.ensures, c.put-2.ensures, c.put.ensures) (put_identity c.args.state.now c.args.identity.serial c.args.identity.firmware c.args.identity.model (search rules) (search rules) (search rules))
