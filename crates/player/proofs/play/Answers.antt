-- What is replied and what is still to come are the part's replay; the inner loops carry it on, and then one record the long way.
use mathlib.Core.Path.{ap, ◌∙◌}
use Rattle.std.specs.Prelude.{Err}
use Rattle.device.proofs.Memories.{shaped_memory}
use Rattle.player.proofs.Ends.{play_full, play_nothing, playing_after, playing_malformed, playing_part, playing_rests, playing_stretch}
use Rattle.records.proofs.Rest.{rest_starts, next_place}
use borrow.Author.Rules.{rules}
use native.Mathlib.Omega.{arith}
use Rattle.player.proofs.play.Goals as goal

pub act-outcome-requires : goal.act-outcome-requires
act-outcome-requires c =
    let p = playing_stretch c.loop-course.invariant c.loop-course-test.true c.stretch-course.ensures.way in
    shaped_memory _ _ p.ready.shaped p.ready.long

pub overflow_add-course : goal.overflow_add-course
overflow_add-course c = omega (arith, next_place _ _ _ _ c.stretch-course.ensures.stands.below c.next.ensures c.in-Ok.is)

pub loop-course-preserved : goal.loop-course-preserved
loop-course-preserved c =
    let p = playing_stretch c.loop-course.invariant c.loop-course-test.true c.stretch-course.ensures.way in
    playing_after p _ (rest_starts c.args.rec.now c.stretch-course.result.at _ _ c.next.ensures c.in-Ok.is) _ _ c.act-outcome.ensures.0 c.act-outcome.ensures.1 (search rules) _ c.reply.ensures

pub returns-in-Err-Nothing : goal.returns-in-Err-Nothing
returns-in-Err-Nothing c =
    let p = playing_stretch c.loop-course.invariant c.loop-course-test.true c.stretch-course.ensures.way in
    rw (c.halts.ensures, c.ended.ensures) (playing_rests p _ (play_nothing _ _ _ _ _ (rest_starts c.args.rec.now c.stretch-course.result.at _ _ c.next.ensures (c.in-Err-Nothing.is ∙ ap Err c.in-Err-Nothing.field-0-is))))

pub returns-in-Err-Part : goal.returns-in-Err-Part
returns-in-Err-Part c =
    let p = playing_stretch c.loop-course.invariant c.loop-course-test.true c.stretch-course.ensures.way in
    rw c.cut.ensures.0 (playing_part _ p (rest_starts c.args.rec.now c.stretch-course.result.at _ _ c.next.ensures (c.in-Err-Part.is ∙ ap Err c.in-Err-Part.field-0-is)) _ c.cut.ensures.1)

pub returns-in-Err-Malformed : goal.returns-in-Err-Malformed
returns-in-Err-Malformed c =
    let p = playing_stretch c.loop-course.invariant c.loop-course-test.true c.stretch-course.ensures.way in
    rw c.cut-in-Err-Malformed.ensures.0 (playing_malformed _ p (rest_starts c.args.rec.now c.stretch-course.result.at _ _ c.next.ensures (c.in-Err-Malformed.is ∙ ap Err c.in-Err-Malformed.field-0-is)) _ c.cut-in-Err-Malformed.ensures.1)

pub returns : goal.returns
returns c = rw c.halts-2.ensures (playing_rests c.loop-course.invariant _ (play_full _ _ _ _ _ c.loop-course-test.false))
