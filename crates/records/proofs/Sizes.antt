-- A record has as many bytes as its length says and the two of the length, at least three, and they are all there.
use Prim.Native.Nat.{ℕ, ◌+◌, ◌≤◌}
use mathlib.Core.Bool.{true}
use mathlib.Core.Path.{◌≡◌, refl}
use mathlib.Core.List.{List}
use native.Mathlib.Omega.{arith}
use lib.Dec.{ltb, eqb}
use lib.ListN.{length, get_or}
use borrow.Author.Tests.{ltb-false, eqb-true}
use Rattle.std.specs.Prelude.{Result, Ok, Err}
use Rattle.base.specs.Choice.{pick}
use Rattle.base.proofs.Tests.{pick_both, pick_each}
use Rattle.records.specs.declared.Record.{Record}
use Rattle.records.specs.declared.NoRecord.{NoRecord}
use Rattle.records.specs.declared.NoRecord.TheVariants.{Part}
use Rattle.records.specs.Records.{one_byte, two_bytes, three_bytes, payload_of, length_of, next_of}

-- a record's size lies between two bounds
abbrev pub Within : ℕ → ℕ → Result Record NoRecord → Type 0
Within low high (Ok r) = (low ≤ r.size) × (r.size ≤ high)
Within low high (Err e) = Unit

sized_within : (n size : ℕ) (x : Result Record NoRecord) → (size ≤ n → Within 3 n x) → Within 3 n (pick (ltb n size) (Err Part) x)
sized_within n size x p = pick_each (Within 3 n) (ltb n size) (Err Part) x (λ h. tt) (λ h. p (ltb-false _ _ h))

one_within : (n kind : ℕ) → 3 ≤ n → Within 3 n (one_byte kind)
unfolding one_byte
one_within n kind h =
    pick_both (Within 3 n) (eqb kind 3) _ _ (omega arith, h)
    (pick_both (Within 3 n) (eqb kind 5) _ _ (omega arith, h)
    (pick_both (Within 3 n) (eqb kind 6) _ _ (omega arith, h)
    (pick_both (Within 3 n) (eqb kind 7) _ _ (omega arith, h) tt)))

two_within : (n kind x : ℕ) → 4 ≤ n → Within 3 n (two_bytes kind x)
unfolding two_bytes
two_within n kind x h = pick_both (Within 3 n) (eqb kind 1) _ _ (omega arith, h) tt

three_within : (n kind x y : ℕ) → 5 ≤ n → Within 3 n (three_bytes kind x y)
unfolding three_bytes
three_within n kind x y h =
    pick_both (Within 3 n) (eqb kind 4) _ _ (omega arith, h) (pick_both (Within 3 n) (eqb kind 2) _ _ (omega arith, h) tt)

payload_within : (k : ℕ) (l : List ℕ) → Within 3 (length l) (payload_of k l)
unfolding payload_of
payload_within k l =
    pick_both (Within 3 (length l)) (eqb k 1) _ _ (sized_within (length l) 3 _ (one_within (length l) (get_or l 2 0)))
    (pick_both (Within 3 (length l)) (eqb k 2) _ _ (sized_within (length l) 4 _ (two_within (length l) (get_or l 2 0) (get_or l 3 0)))
    (pick_both (Within 3 (length l)) (eqb k 3) _ _ (sized_within (length l) 5 _ (three_within (length l) (get_or l 2 0) (get_or l 3 0) (get_or l 4 0))) tt))

next_within : (l : List ℕ) → Within 3 (length l) (next_of l)
unfolding next_of
next_within l =
    pick_both (Within 3 (length l)) (ltb (length l) 1) _ _ tt
    (pick_both (Within 3 (length l)) (ltb (length l) 2) _ _ tt (payload_within (length_of l) l))

pub record_within : (l : List ℕ) (r : Record) → next_of l ≡ Ok r → (3 ≤ r.size) × (r.size ≤ length l)
record_within l r e = rw e at (next_within l)

-- ---- a record's size is that of its length and of its payload

-- a record's size goes with this length
abbrev Sized : ℕ → Result Record NoRecord → Type 0
Sized n (Ok r) = r.size ≡ 2 + n
Sized n (Err e) = Unit

one_sized : (kind : ℕ) → Sized 1 (one_byte kind)
unfolding one_byte
one_sized kind =
    pick_both (Sized 1) (eqb kind 3) _ _ refl
    (pick_both (Sized 1) (eqb kind 5) _ _ refl (pick_both (Sized 1) (eqb kind 6) _ _ refl (pick_both (Sized 1) (eqb kind 7) _ _ refl tt)))

two_sized : (kind x : ℕ) → Sized 2 (two_bytes kind x)
unfolding two_bytes
two_sized kind x = pick_both (Sized 2) (eqb kind 1) _ _ refl tt

three_sized : (kind x y : ℕ) → Sized 3 (three_bytes kind x y)
unfolding three_bytes
three_sized kind x y = pick_both (Sized 3) (eqb kind 4) _ _ refl (pick_both (Sized 3) (eqb kind 2) _ _ refl tt)

-- what is shown of a length is shown of the byte that has it
of_length : (k n size : ℕ) (l : List ℕ) (x : Result Record NoRecord) → eqb k n ≡ true → Sized n x → Sized k (pick (ltb (length l) size) (Err Part) x)
of_length k n size l x h p = rw (eqb-true k n h) (pick_both (Sized n) (ltb (length l) size) (Err Part) x tt p)

payload_sized : (k : ℕ) (l : List ℕ) → Sized k (payload_of k l)
unfolding payload_of
payload_sized k l =
    pick_each (Sized k) (eqb k 1) _ _ (λ h. of_length k 1 3 l _ h (one_sized (get_or l 2 0)))
    (λ _. pick_each (Sized k) (eqb k 2) _ _ (λ h. of_length k 2 4 l _ h (two_sized (get_or l 2 0) (get_or l 3 0)))
    (λ _. pick_each (Sized k) (eqb k 3) _ _ (λ h. of_length k 3 5 l _ h (three_sized (get_or l 2 0) (get_or l 3 0) (get_or l 4 0))) (λ _. tt)))

next_sized : (l : List ℕ) → Sized (length_of l) (next_of l)
unfolding next_of
next_sized l =
    pick_both (Sized (length_of l)) (ltb (length l) 1) _ _ tt
    (pick_both (Sized (length_of l)) (ltb (length l) 2) _ _ tt (payload_sized (length_of l) l))

-- "a two-byte big-endian length and payload"
pub record_size : (l : List ℕ) (r : Record) → next_of l ≡ Ok r → r.size ≡ 2 + length_of l
record_size l r e = rw e at (next_sized l)
