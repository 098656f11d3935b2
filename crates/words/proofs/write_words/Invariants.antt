-- Each turn takes in what single writes would, up to the block's end at the most; the loop ends where a word is not taken in here or none is left.
use Prim.Native.Nat.{◌-◌}
use Rattle.words.proofs.WriteLoop.{Taking}
use Rattle.words.proofs.write_words.Given as goal

abbrev pub invariant-loop-words : goal.invariant-loop-words
invariant-loop-words l = Taking l.initial.hot l.front.settled l.initial.buffer l.initial.sectors l.bytes l.hot l.buffer l.sectors l.words

abbrev pub decreases-loop-words : goal.decreases-loop-words
decreases-loop-words l = l.wanted - l.words
