-- The rest of a recording, lent as a part of it.
use Prim.Native.Nat.{ℕ, ◌+◌, ◌-◌, ◌≤◌}
use mathlib.Core.Path.{◌≡◌, sym, ap, ◌∙◌}
use mathlib.Core.List.{List}
use native.Mathlib.Omega.{arith}
use lib.ListN.{length, take, drop, length-drop}
use lib.Seq.{take_all}
use Rattle.std.specs.Prelude.{Result, Ok}
use Rattle.records.specs.Records.{next_of}
use Rattle.records.specs.declared.Record.{Record}
use Rattle.records.specs.declared.NoRecord.{NoRecord}
use Rattle.records.proofs.Sizes.{record_within}

-- what it starts with
pub rest_starts : (l : List ℕ) (at : ℕ) (r x : Result Record NoRecord) → r ≡ next_of (take (length l - at) (drop at l)) → r ≡ x → next_of (drop at l) ≡ x
rest_starts l at r x e g =
    let h : take (length l - at) (drop at l) ≡ drop at l = take_all (length l - at) (drop at l) (rw length-drop (omega arith)) in
    sym (ap next_of h) ∙ sym e ∙ g

-- a record lies within it
pub rest_within : (l : List ℕ) (at : ℕ) (r : Record) → next_of (drop at l) ≡ Ok r → r.size ≤ length l - at
rest_within l at r e = go (record_within (drop at l) r e).1
  where
    go : r.size ≤ length (drop at l) → r.size ≤ length l - at
    go i = rw length-drop at i

-- so the next one begins within it, or at its end
pub next_place : (l : List ℕ) (at : ℕ) (x : Result Record NoRecord) (r : Record) → at ≤ length l → x ≡ next_of (take (length l - at) (drop at l)) → x ≡ Ok r → at + r.size ≤ length l
next_place l at x r h e g = let w : r.size ≤ length l - at = rest_within l at r (rest_starts l at _ _ e g) in omega arith
