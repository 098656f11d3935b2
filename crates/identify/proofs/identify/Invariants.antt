-- After each turn one word more stands in the block.
use lib.ListN.{length, take}
use mathlib.Core.Path.{◌≡◌}
use Prim.Native.Nat.{◌*◌}
use Rattle.identify.specs.Identify.{words_of}
use Rattle.identify.proofs.identify.Given as goal

abbrev pub invariant-loop-n : goal.invariant-loop-n
invariant-loop-n l = record { long : length l.block ≡ 512; is : take (2 * l.n) l.block ≡ words_of l.settled l.n }
