-- No byte behind a record, or behind a malformed one, changes what the bytes start with.
use Prim.Native.Nat.{ℕ, ◌+◌, ◌*◌, ◌≤◌}
use mathlib.Core.Bool.{Bool, true, false}
use mathlib.Core.Path.{◌≡◌, refl, sym, ap, ◌∙◌}
use mathlib.Core.List.{List, ◌++◌}
use native.Mathlib.Omega.{arith}
use lib.Dec.{ltb, eqb}
use lib.ListN.{length, get_or, length-append, get_or-append}
use borrow.Author.Tests.{ltb-false, le-ltb}
use Rattle.std.specs.Prelude.{Result, Ok, Err}
use Rattle.base.specs.Choice.{pick}
use Rattle.base.proofs.Tests.{false≢true}
use Rattle.records.specs.declared.Record.{Record}
use Rattle.records.specs.declared.NoRecord.{NoRecord}
use Rattle.records.specs.declared.NoRecord.TheVariants.{Nothing, Part, Malformed}
use Rattle.records.specs.Records.{length_of, payload_of, next_of}

-- nothing that follows can change it
abbrev pub decided : Result Record NoRecord → Bool
decided (Ok r) = true
decided (Err Nothing) = false
decided (Err Part) = false
decided (Err Malformed) = true

-- a choice stays where both its sides stay
pick_stays : (b : Bool) (x y x' y' : Result Record NoRecord) → (decided x ≡ true → x' ≡ x) → (decided y ≡ true → y' ≡ y)
    → decided (pick b x y) ≡ true → pick b x' y' ≡ pick b x y
pick_stays true x y x' y' p q h = p h
pick_stays false x y x' y' p q h = q h

-- with enough bytes there, more of them change no test of the length
sized_stays : (a b : List ℕ) (n : ℕ) (o x x' : Result Record NoRecord) → decided o ≡ false → (n ≤ length a → decided x ≡ true → x' ≡ x)
    → decided (pick (ltb (length a) n) o x) ≡ true → pick (ltb (length (a ++ b)) n) o x' ≡ pick (ltb (length a) n) o x
sized_stays a b n o x x' i p h = go (ltb (length a) n) refl h
  where
    go : (t : Bool) → ltb (length a) n ≡ t → decided (pick t o x) ≡ true → pick (ltb (length (a ++ b)) n) o x' ≡ pick t o x
    go true e h = absurd (false≢true (sym i ∙ h))
    go false e h =
        let l : n ≤ length a = ltb-false _ _ e in
        let m : n ≤ length (a ++ b) = rw length-append (omega arith) in
        ap (λ (t : Bool). pick t o x') (le-ltb _ _ m) ∙ p l h

payload_stays : (k : ℕ) (a b : List ℕ) → decided (payload_of k a) ≡ true → payload_of k (a ++ b) ≡ payload_of k a
unfolding payload_of
payload_stays k a b =
    pick_stays (eqb k 1) _ _ _ _
    (sized_stays a b 3 (Err Part) _ _ refl (λ l g. let x : get_or (a ++ b) 2 0 ≡ get_or a 2 0 = get_or-append a b 0 2 (omega arith) in rw x))
    (pick_stays (eqb k 2) _ _ _ _
    (sized_stays a b 4 (Err Part) _ _ refl
    (λ l g. let x : get_or (a ++ b) 2 0 ≡ get_or a 2 0 = get_or-append a b 0 2 (omega arith) in
    let y : get_or (a ++ b) 3 0 ≡ get_or a 3 0 = get_or-append a b 0 3 (omega arith) in rw (x, y)))
    (pick_stays (eqb k 3) _ _ _ _
    (sized_stays a b 5 (Err Part) _ _ refl
    (λ l g. let x : get_or (a ++ b) 2 0 ≡ get_or a 2 0 = get_or-append a b 0 2 (omega arith) in
    let y : get_or (a ++ b) 3 0 ≡ get_or a 3 0 = get_or-append a b 0 3 (omega arith) in
    let z : get_or (a ++ b) 4 0 ≡ get_or a 4 0 = get_or-append a b 0 4 (omega arith) in rw (x, y, z)))
    (λ h. refl)))

pub next_stays : (a b : List ℕ) → decided (next_of a) ≡ true → next_of (a ++ b) ≡ next_of a
unfolding next_of length_of
next_stays a b h =
    sized_stays a b 1 (Err Nothing) _ _ refl
    (λ l g. sized_stays a b 2 (Err Part) _ _ refl
    (λ m i. let x : get_or (a ++ b) 0 0 ≡ get_or a 0 0 = get_or-append a b 0 0 (omega arith) in
    let y : get_or (a ++ b) 1 0 ≡ get_or a 1 0 = get_or-append a b 0 1 (omega arith) in
    rw (x, y) (payload_stays (256 * get_or a 0 0 + get_or a 1 0) a b i)) g) h
