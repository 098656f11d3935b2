-- Each turn takes in what single writes would, up to the block's end at the most; the loop ends where a word is not taken in here or none is left.
use Rattle.words.proofs.WriteLoop.{taking_done, taking_more, taking_none, taking_refused}
use borrow.Author.Rules.{rules}
use Rattle.words.proofs.write_words.Goals as goal

pub loop-words-init : goal.loop-words-init
loop-words-init c = taking_none _ _ _ _ _

pub loop-words-preserved : goal.loop-words-preserved
loop-words-preserved c = taking_more c.loop-words.invariant (search rules) _ c.place_of-place.ensures (search rules) _ (search rules) (search rules) (search rules) _ c.copy.ensures _ c.write_to-hot.ensures.0 _ c.write_to-hot.ensures.1 (search rules)

pub returns-then-place-end : goal.returns-then-place-end
returns-then-place-end c = taking_refused c.loop-words.invariant _ c.place_of-place.ensures (search rules) _ c.takes_to-end.ensures.0 c.if-place-end.true

pub returns : goal.returns
returns c = taking_done c.loop-words.invariant c.loop-words-test.false
