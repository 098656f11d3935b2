-- Each record that the fast path settles lies on the way, and so does each run of glances behind it; where it settles none, the way ends.
use Rattle.loops.specs.Ways.{Onward, stand_at, way_at}
use Rattle.loops.proofs.swift.Given as goal

abbrev pub invariant-loop-left : goal.invariant-loop-left
invariant-loop-left l = Onward l.rec (way_at (stand_at l.initial.hot l.initial.at l.initial.put l.initial.left) l.initial.buffer l.initial.out) (way_at (stand_at l.hot l.at l.put l.left) l.buffer l.out)

abbrev pub decreases-loop-left : goal.decreases-loop-left
decreases-loop-left l = l.left
