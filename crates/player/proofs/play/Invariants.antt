-- What is replied and what is still to come are the part's replay; the inner loops carry it on, and then one record the long way.
use Rattle.playback.specs.Loops.{Playing}
use Rattle.player.specs.Parts.{part_of}
use lib.ListN.{length}
use Rattle.player.proofs.play.Given as goal

abbrev pub invariant-loop-course : goal.invariant-loop-course
invariant-loop-course l =
    Playing (part_of l.last l.initial.course.device l.initial.sectors l.rec l.initial.course.at l.initial.out l.initial.course.put) l.last l.rec l.initial.out
    (length l.initial.sectors) l.course.left l.course.device l.sectors l.out l.course.at l.course.put

abbrev pub decreases-loop-course : goal.decreases-loop-course
decreases-loop-course l = l.course.left
