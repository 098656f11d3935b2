-- Each record that a glance shows lies on the way; where the loop stops, what it held apart is put back.
use Rattle.glance.proofs.Glancing.{glance_leaves}
use Rattle.loops.proofs.Onward.{onward_as, onward_from, onward_glance, onward_then}
use Rattle.records.proofs.Rest.{rest_starts, next_place}
use mathlib.Core.Path.{sym, ◌∙◌}
use native.Mathlib.Omega.{arith}
use Rattle.loops.proofs.glide.Goals as goal
use Rattle.loops.proofs.glide.Goals.{else-loop-left-test, then-loop-left-test+in_default, then-loop-left-test+in-Ok+in_default-look}

pub overflow_add-at : goal.overflow_add-at
overflow_add-at c = omega (arith, next_place _ _ _ _ c.loop-left.invariant.stands.below c.next.ensures c.in-Ok.is)

pub loop-left-preserved : goal.loop-left-preserved
loop-left-preserved c =
    onward_then c.loop-left.invariant (onward_glance _ _ _ _ _ _ _ _ _ c.loop-left.invariant.stands c.loop-left-test.true _
    (rest_starts c.args.rec.now c.loop-left.at _ _ c.next.ensures c.in-Ok.is) _ (sym c.look.ensures.0 ∙ c.in-Some.is) _ c.look.ensures.1 _ c.reply.ensures)

pub returns : goal.returns
returns c =
    rw (c.standing.ensures, c.hot_at.ensures) (onward_as (onward_from c.args.from _ c.place_of-word.ensures c.loop-left.invariant) _
    (elim c.loop-left-test.branch [
      | else-loop-left-test w ↦ w.buffer-is
      | then-loop-left-test+in_default w ↦ w.buffer-is
      | then-loop-left-test+in-Ok+in_default-look w ↦ w.buffer-is ∙ w.look.ensures.1 ∙ glance_leaves _ _ _ _ _ (sym w.look.ensures.0 ∙ w.in_default-look.is)
    ]))
