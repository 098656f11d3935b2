-- The five bytes are written over five; a word's higher byte is below 256, so that dividing by 256 alone gives it.
use Prim.Native.Nat.{◌/◌, ◌%◌}
use mathlib.Core.Path.{◌≡◌, ◌∙◌}
use native.Mathlib.Omega.{arith}
use Rattle.records.proofs.Stores.{written}
use Rattle.records.specs.Replies.{reply_bytes}
use Rattle.records.proofs.reply.Goals as goal

pub returns : goal.returns
returns c =
    let high : c.args.value / 256 % 256 ≡ c.args.value / 256 = omega arith in
    written c.args.out.now c.copy_from_slice.new.self (reply_bytes c.args.answer c.args.value) c.args.put _
    (c.copy_from_slice.ensures.after ∙ rw (c.to_be_bytes.ensures, high)) (omega arith) c.requires
