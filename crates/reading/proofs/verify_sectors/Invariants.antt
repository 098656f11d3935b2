-- As long as all sectors reached were good, the rest decides.
use Prim.Native.Nat.{ℕ}
use Rattle.face.specs.Face.{face_with}
use Rattle.reading.proofs.Verifying.{Verifying}
use mathlib.Core.List.{List}
use Rattle.reading.proofs.verify_sectors.Given as goal

abbrev pub invariant-loop-after : goal.invariant-loop-after
invariant-loop-after l = (b : List ℕ) → Verifying (face_with l.front.hot l.front.settled b) l.initial.after l.initial.at l.after l.at
