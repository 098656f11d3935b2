-- The disk in shape, clause by clause.
use mathlib.Core.Bool.{true}
use mathlib.Core.Path.{◌≡◌}
use Rattle.base.proofs.Tests.{both_true}
use Rattle.settled.specs.Settled.{settled_fits}
use Rattle.face.specs.declared.Face.{Face}
use Rattle.shape.specs.Shape.{transfer_fits, held_fits, parts_fit, disk_fits}

pub record Fits (f : Face) : Type 0 where
  pub sound : settled_fits f.settled ≡ true
  pub held : held_fits f.hot ≡ true
  pub fits : transfer_fits f.settled f.hot.transfer ≡ true

pub shape_clauses : (f : Face) → disk_fits f ≡ true → Fits f
unfolding parts_fit
shape_clauses f e =
    let a = both_true (settled_fits f.settled) _ e in
    let b = both_true (held_fits f.hot) _ a.1 in
    record { sound = a.0; held = b.0; fits = b.1 }

pub clauses_shape : (f : Face) → Fits f → disk_fits f ≡ true
unfolding parts_fit
clauses_shape f k = simp (k.sound, k.held, k.fits)
