-- Two pieces, one behind the other.
use Rattle.layout.proofs.Puts.{put_secrets}
use borrow.Author.Rules.{rules}
use Rattle.layout.proofs.put_secrets.Goals as goal

pub returns : goal.returns
returns c = rw (c.put-2.ensures, c.put.ensures) (put_secrets c.args.state.now c.args.secrets.user c.args.secrets.master (search rules) (search rules))
