-- Each record that the fast path settles lies on the way, and so does each run of glances behind it; where it settles none, the way ends.
use Rattle.fastpath.proofs.Slow.{quick_slow}
use Rattle.loops.proofs.Onward.{onward_ends, onward_settled, onward_then, rests_slow, swift_full, swift_rests, way_as}
use Rattle.loops.specs.Ways.{swift_as}
use Rattle.records.proofs.Rest.{rest_starts, next_place}
use mathlib.Core.Path.{refl, sym, ◌∙◌}
use native.Mathlib.Omega.{arith}
use Rattle.loops.proofs.swift.Goals as goal
use Rattle.loops.proofs.swift.Goals.{else-loop-left-test, then-loop-left-test+in_default, then-loop-left-test+in-Ok+in_default-quick}

pub overflow_add-at : goal.overflow_add-at
overflow_add-at c = omega (arith, next_place _ _ _ _ c.loop-left.invariant.stands.below c.next.ensures c.in-Ok.is)

pub glide-far-requires : goal.glide-far-requires
glide-far-requires c =
    (onward_settled c.loop-left.invariant.stands c.loop-left-test.true c.next.ensures c.in-Ok.is c.quick.ensures.0 c.in-Some.is c.quick.ensures.1 c.answer.ensures c.standing.ensures).stands

pub loop-left-preserved-then-not-idle : goal.loop-left-preserved-then-not-idle
loop-left-preserved-then-not-idle c =
    onward_then c.loop-left.invariant
    (onward_then (onward_settled c.loop-left.invariant.stands c.loop-left-test.true c.next.ensures c.in-Ok.is c.quick.ensures.0 c.in-Some.is c.quick.ensures.1 c.answer.ensures c.standing.ensures) c.glide-far.ensures)

pub loop-left-preserved : goal.loop-left-preserved
loop-left-preserved c =
    onward_then c.loop-left.invariant
    (onward_settled c.loop-left.invariant.stands c.loop-left-test.true c.next.ensures c.in-Ok.is c.quick.ensures.0 c.in-Some.is c.quick.ensures.1 c.answer.ensures refl)

pub returns : goal.returns
unfolding swift_as
returns c =
    let along = onward_then c.glide-at.ensures c.loop-left.invariant in
    rw c.standing-2.ensures
    (elim c.loop-left-test.branch [
      | else-loop-left-test w ↦ way_as w.buffer-is (onward_ends along (swift_full _ _ _ w.loop-left-test.false))
      | then-loop-left-test+in_default w ↦ way_as w.buffer-is
          (onward_ends along (swift_rests _ _ _ _ (rest_starts c.args.rec.now c.loop-left.at _ _ w.next.ensures w.in_default.is) (λ rest. refl)))
      | then-loop-left-test+in-Ok+in_default-quick w ↦
          let slow = sym w.quick.ensures.0 ∙ w.in_default-quick.is in
          way_as (w.buffer-is ∙ w.quick.ensures.1 ∙ quick_slow _ _ _ slow)
          (onward_ends along (swift_rests _ _ _ _ (rest_starts c.args.rec.now c.loop-left.at _ _ w.next.ensures w.in-Ok.is) (rests_slow _ _ slow)))
    ])
