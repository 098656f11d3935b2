-- Where the fast path settles the action, it is the action.
use Rattle.device.proofs.FastStep.{quick_settles}
use mathlib.Core.Path.{refl, sym, ◌∙◌}
use Rattle.device.proofs.Device.step.Goals as goal

pub returns-in-Some : goal.returns-in-Some
returns-in-Some c = let e = quick_settles c.args.self c.args.sectors.now c.args.action _ _ (sym c.quick.ensures.0 ∙ c.in-Some.is) c.quick.ensures.1 in simp (e, c.settles.ensures) (refl, refl)
