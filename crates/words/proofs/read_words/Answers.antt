-- Each turn hands out what single reads would, up to the block's end at the most; the loop ends where a word is turned away or no more are wanted.
use Rattle.words.proofs.ReadLoop.{handing_done, handing_more, handing_none, handing_refused}
use borrow.Author.Rules.{rules}
use mathlib.Core.Path.{sym, ◌∙◌}
use Rattle.words.proofs.read_words.Goals as goal

pub loop-words-init : goal.loop-words-init
loop-words-init c = handing_none _ _ _ _ _

pub loop-words-preserved : goal.loop-words-preserved
loop-words-preserved c = handing_more c.loop-words.invariant (sym c.hands_out.ensures ∙ c.if-hands_out.true) (search rules) _ c.place_of-place.ensures (search rules) _ (search rules) (search rules) _ c.copy.ensures _ _ c.read_to-hot.ensures

pub returns-else-hands_out : goal.returns-else-hands_out
returns-else-hands_out c = handing_refused c.loop-words.invariant (sym c.hands_out.ensures ∙ c.if-hands_out.false)

pub returns-after-loop-words : goal.returns-after-loop-words
returns-after-loop-words c = handing_done c.loop-words.invariant c.loop-words-test.false
