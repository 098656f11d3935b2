-- Three pieces, one behind the other.
use Rattle.layout.proofs.Puts.{hot_bytes_long, put_front}
use Rattle.layout.specs.Bytes.{hot_bytes, identity_bytes, number_bytes}
use mathlib.Core.Path.{refl}
use Rattle.layout.proofs.put_front.Goals as goal

pub returns : goal.returns
returns c = rw (c.put_identity.ensures.0, c.put_numbers.ensures, c.put_hot.ensures) (put_front c.args.state.now (hot_bytes c.args.front.hot) (number_bytes c.args.front.settled) (identity_bytes c.args.front.settled.identity) (hot_bytes_long c.args.front.hot) refl c.put_identity.ensures.1)
