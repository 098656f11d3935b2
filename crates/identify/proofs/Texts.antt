-- The words of serial, firmware and model hold their characters two by two, the first in the high byte.
use Prim.Native.Nat.{ℕ, zero, suc, ◌+◌, ◌-◌, ◌*◌, ◌/◌, ◌%◌, ◌≤◌, ◌<◌}
use mathlib.Core.Path.{◌≡◌}
use mathlib.Core.Bool.{true, false}
use mathlib.Core.List.{List, [], ◌∷◌}
use native.Mathlib.Omega.{arith}
use borrow.Author.Tests.{le-leb, lt-leb}
use lib.ListN.{get_or}
use Rattle.base.specs.Choice.{pick, within}
use Rattle.base.proofs.Tests.{both_true, within_high, within_true}
use Rattle.block.specs.Words.{word_at}
use Rattle.settled.specs.Identity.{plain, printable, identity_fits}
use Rattle.settled.specs.declared.Identity.{Identity}
use Rattle.settled.specs.declared.Settled.{Settled}
use Rattle.identify.specs.Words.{text_word, identify_word}
use Rattle.identify.specs.Identify.{identify_of}
use Rattle.identify.proofs.ReadBack.{identify_word_law}

-- w holds characters 2k and 2k + 1 of t, the first in the high byte
pub record Holds (t : List ℕ) (k w : ℕ) : Type 0 where
  pub first : w / 256 ≡ get_or t (2 * k) 0
  pub second : w % 256 ≡ get_or t (2 * k + 1) 0

-- a printable text's characters are bytes
printable_byte : (t : List ℕ) (i : ℕ) → printable t ≡ true → get_or t i 0 < 256
unfolding printable
printable_byte [] i e = omega arith
printable_byte (x ∷ xs) zero e =
    let q : x ≤ 0x7E = within_high 0x20 0x7E x (both_true (plain x) (printable xs) e).0 in
    omega arith
printable_byte (x ∷ xs) (suc i) e = printable_byte xs i (both_true (plain x) (printable xs) e).1

-- the texts of an identity within the limits are printable
record Printable (i : Identity) : Type 0 where
  serial : printable i.serial ≡ true
  firmware : printable i.firmware ≡ true
  model : printable i.model ≡ true

identity_printable : (i : Identity) → identity_fits i ≡ true → Printable i
unfolding identity_fits
identity_printable i e =
    let a = both_true (printable i.serial) (pick (printable i.firmware) (printable i.model) false) e in
    let b = both_true (printable i.firmware) (printable i.model) a.1 in
    record { serial = a.0; firmware = b.0; model = b.1 }

-- the words of a printable text hold its characters
text_holds : (t : List ℕ) (k : ℕ) → printable t ≡ true → Holds t k (text_word t k)
unfolding text_word
text_holds t k e =
    let p : get_or t (2 * k + 1) 0 < 256 = printable_byte t (2 * k + 1) e in
    record { first = omega arith; second = omega arith }

-- behind a range
past : (first last n : ℕ) → first ≤ n → last < n → within first last n ≡ false
unfolding within
past first last n p q = rw (le-leb first n p, lt-leb n last q)

-- word n of the block is word k of t, and t is printable
holds : (s : Settled) (t : List ℕ) (n k : ℕ) → printable t ≡ true → n < 256 → identify_word s n ≡ text_word t k → Holds t k (word_at (identify_of s) n)
holds s t n k p h e = rw (identify_word_law s n h, e) (text_holds t k p)

-- "10-19 .. serial"
pub serial_words : (s : Settled) (k : ℕ) → identity_fits s.identity ≡ true → k < 10
    → Holds s.identity.serial k (word_at (identify_of s) (10 + k))
unfolding identify_word
serial_words s k f h =
    let i : 10 + k - 10 ≡ k = omega arith in
    holds s s.identity.serial (10 + k) k (identity_printable s.identity f).serial (omega arith) (rw (within_true 10 19 (10 + k) (omega arith) (omega arith), i))

-- "23-26 .. firmware"
pub firmware_words : (s : Settled) (k : ℕ) → identity_fits s.identity ≡ true → k < 4
    → Holds s.identity.firmware k (word_at (identify_of s) (23 + k))
unfolding identify_word
firmware_words s k f h =
    let i : 23 + k - 23 ≡ k = omega arith in
    holds s s.identity.firmware (23 + k) k (identity_printable s.identity f).firmware (omega arith)
    (rw (past 10 19 (23 + k) (omega arith) (omega arith), within_true 23 26 (23 + k) (omega arith) (omega arith), i))

-- "27-46: .. model"
pub model_words : (s : Settled) (k : ℕ) → identity_fits s.identity ≡ true → k < 20
    → Holds s.identity.model k (word_at (identify_of s) (27 + k))
unfolding identify_word
model_words s k f h =
    let i : 27 + k - 27 ≡ k = omega arith in
    holds s s.identity.model (27 + k) k (identity_printable s.identity f).model (omega arith)
    (rw (
      past 10 19 (27 + k) (omega arith) (omega arith),
      past 23 26 (27 + k) (omega arith) (omega arith),
      within_true 27 46 (27 + k) (omega arith) (omega arith),
      i,
    ))
