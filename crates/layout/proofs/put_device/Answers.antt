-- The front's bytes and the passwords behind them are the whole state.
use Prim.Native.Nat.{ℕ}
use borrow.Author.Rules.{rules}
use Rattle.layout.proofs.Puts.{put_all_law}
use Rattle.layout.specs.Bytes.{front_bytes, secrets_bytes}
use mathlib.Core.List.{List, append_assoc}
use mathlib.Core.Path.{refl, ◌∙◌}
use Rattle.layout.proofs.put_device.Goals as goal

pub returns : goal.returns
returns c =
    let front : List ℕ = front_bytes c.args.device.face.hot c.args.device.face.settled in (
      rw (c.put_secrets.ensures.0, c.put_front.ensures.0)
          (put_all_law c.args.state.now front (secrets_bytes c.args.device.secrets) (search rules) c.put_front.ensures.1 c.put_secrets.ensures.1
          ∙ simp append_assoc),
      refl,
    )
