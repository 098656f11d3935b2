-- The fold over an identity's bytes is whether all are printable.
use mathlib.Core.Bool.{Bool, true, false, ◌&&◌}
use mathlib.Core.Path.{◌≡◌, refl, ◌∙◌}
use mathlib.Core.List.{List, [], ◌∷◌}
use Prim.Native.Nat.{ℕ}
use Rattle.std.specs.List.{fold}
use Rattle.base.proofs.Tests.{and_pick}
use Rattle.settled.specs.Identity.{plain, printable}

-- from `all` on
fold_plain : (all : Bool) (t : List ℕ) → fold (λ (a : Bool) (x : ℕ). a && plain x) all t ≡ all && printable t
unfolding printable
fold_plain true [] = refl
fold_plain false [] = refl
fold_plain all (x ∷ xs) = fold_plain (all && plain x) xs ∙ and_pick all (plain x) (printable xs)

pub fold_printable : (t : List ℕ) → fold (λ (a : Bool) (x : ℕ). a && plain x) true t ≡ printable t
fold_printable t = fold_plain true t
