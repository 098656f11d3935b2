-- Each record that a glance shows lies on the way; where the loop stops, what it held apart is put back.
use Rattle.glance.specs.Places.{hot_at}
use Rattle.loops.specs.Ways.{Onward, stand_at, way_at}
use Rattle.loops.proofs.glide.Given as goal

abbrev pub invariant-loop-left : goal.invariant-loop-left
invariant-loop-left l = Onward l.rec (way_at (stand_at (hot_at l.hot l.initial.word l.initial.raised) l.initial.at l.initial.put l.initial.left) l.initial.buffer l.initial.out) (way_at (stand_at (hot_at l.hot l.word l.raised) l.at l.put l.left) l.buffer l.out)

abbrev pub decreases-loop-left : goal.decreases-loop-left
decreases-loop-left l = l.left
