-- Each turn hands out what single reads would, up to the block's end at the most; the loop ends where a word is turned away or no more are wanted.
use Prim.Native.Nat.{◌-◌}
use Rattle.words.proofs.ReadLoop.{Handing}
use Rattle.words.proofs.read_words.Given as goal

abbrev pub invariant-loop-words : goal.invariant-loop-words
invariant-loop-words l = Handing l.initial.hot l.front.settled l.initial.buffer l.sectors l.initial.out l.hot l.buffer l.out l.words

abbrev pub decreases-loop-words : goal.decreases-loop-words
decreases-loop-words l = l.wanted - l.words
