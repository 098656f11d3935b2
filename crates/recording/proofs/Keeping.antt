-- What moves to the front of the window is put there as it stood.
use Prim.Native.Nat.{ℕ, ◌+◌, ◌-◌, ◌≤◌}
use mathlib.Core.Path.{◌≡◌, sym, ap, ◌∙◌}
use mathlib.Core.List.{List, ◌++◌}
use native.Mathlib.Omega.{arith}
use lib.ListN.{length, take, drop}
use lib.Seq.{sets, sets-eq, paste, length-slice}
use Rattle.std.proofs.lemmas.List.{drop-take}

pub front_moved : (w : List ℕ) (from to : ℕ) → from ≤ to → to ≤ length w → paste w 0 (drop from w) (to - from) ≡ sets w 0 (drop from (take to w))
front_moved w from to o k =
    let size : length (drop from (take to w)) ≡ to - from = length-slice from to w k in
    let end : from + (to - from) ≡ to = omega arith in
    let part : take (to - from) (drop from w) ≡ drop from (take to w) = sym (drop-take from (to - from) w) ∙ ap (λ (i : ℕ). drop from (take i w)) end in
    ap (λ (x : List ℕ). take 0 w ++ x ++ drop (0 + (to - from)) w) part
    ∙ ap (λ (i : ℕ). take 0 w ++ drop from (take to w) ++ drop (0 + i) w) (sym size)
    ∙ sym (sets-eq (drop from (take to w)) w 0 (omega arith))
