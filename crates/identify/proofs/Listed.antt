-- The paper's list read from the block: what each listed word is, and that every other word is 0.
use Prim.Native.Nat.{ℕ, ◌+◌, ◌*◌, ◌<◌}
use mathlib.Core.Path.{◌≡◌, refl, sym, ap, ◌∙◌}
use mathlib.Core.Bool.{Bool, true, false}
use mathlib.Core.List.{List, [], ◌∷◌}
use native.Mathlib.Omega.{arith}
use borrow.Author.Tests.{ne_eqb}
use lib.Dec.{eqb}
use Rattle.base.specs.Choice.{pick, within}
use Rattle.base.proofs.Tests.{false≢true}
use Rattle.base.proofs.Lists.{among}
use Rattle.block.specs.Words.{word_at}
use Rattle.geometry.specs.Geometry.{capacity_of}
use Rattle.geometry.specs.Translation.{product_of}
use Rattle.settled.specs.declared.Settled.{Settled}
use Rattle.identify.specs.SecurityWord.{security_word}
use Rattle.identify.specs.Words.{number_word, identify_word}
use Rattle.identify.specs.Identify.{identify_of}
use Rattle.identify.proofs.ReadBack.{identify_word_law}

-- the words that are numbers, w n being word n; two words that make one number are added up, the low one first
pub record Numbered (s : Settled) (w : ℕ → ℕ) : Type 0 where
  pub word0 : w 0 ≡ 0x0040
  pub word1 : w 1 ≡ s.geometry.cylinders
  pub word3 : w 3 ≡ s.geometry.heads
  pub word6 : w 6 ≡ s.geometry.sectors
  pub word49 : w 49 ≡ 0x0200
  pub word53 : w 53 ≡ 0x0001
  pub word54 : w 54 ≡ s.translation.cylinders
  pub word55 : w 55 ≡ s.translation.heads
  pub word56 : w 56 ≡ s.translation.sectors
  pub words57 : (w 57 + 65536 * w 58 ≡ product_of s.translation) × (w 57 < 65536)
  pub words60 : (w 60 + 65536 * w 61 ≡ capacity_of s.geometry) × (w 60 < 65536)
  pub word80 : w 80 ≡ 0x000E
  pub word82 : w 82 ≡ 0x0002
  pub word83 : w 83 ≡ 0x4000
  pub word128 : w 128 ≡ security_word s.security

-- the block holds them
pub numbered : (s : Settled) → Numbered s (word_at (identify_of s))
unfolding identify_word number_word within
numbered s =
    record {
      word0 = identify_word_law s 0 (omega arith);
      word1 = identify_word_law s 1 (omega arith);
      word3 = identify_word_law s 3 (omega arith);
      word6 = identify_word_law s 6 (omega arith);
      word49 = identify_word_law s 49 (omega arith);
      word53 = identify_word_law s 53 (omega arith);
      word54 = identify_word_law s 54 (omega arith);
      word55 = identify_word_law s 55 (omega arith);
      word56 = identify_word_law s 56 (omega arith);
      words57 = rw (identify_word_law s 57 (omega arith), identify_word_law s 58 (omega arith)) (omega arith, omega arith);
      words60 = rw (identify_word_law s 60 (omega arith), identify_word_law s 61 (omega arith)) (omega arith, omega arith);
      word80 = identify_word_law s 80 (omega arith);
      word82 = identify_word_law s 82 (omega arith);
      word83 = identify_word_law s 83 (omega arith);
      word128 = identify_word_law s 128 (omega arith);
    }

-- the numbers of the listed words that are no text
abbrev pub listed_numbers : List ℕ
listed_numbers = 0 ∷ 1 ∷ 3 ∷ 6 ∷ 49 ∷ 53 ∷ 54 ∷ 55 ∷ 56 ∷ 57 ∷ 58 ∷ 60 ∷ 61 ∷ 80 ∷ 82 ∷ 83 ∷ 128 ∷ []

-- n is a word that the paper lists
abbrev pub listed : ℕ → Bool
listed n = pick (within 10 19 n) true (pick (within 23 26 n) true (pick (within 27 46 n) true (among n listed_numbers)))

-- a choice against true is false exactly where both tests are
neither : (a b : Bool) → pick a true b ≡ false → (a ≡ false) × (b ≡ false)
neither true b e = absurd (false≢true (sym e))
neither false b e = (refl, e)

-- what is not among the listed numbers is none of them
apart : (n k : ℕ) → among n listed_numbers ≡ false → among k listed_numbers ≡ true → eqb n k ≡ false
apart n k out there = ne_eqb n k (λ q. false≢true (sym out ∙ ap (λ (m : ℕ). among m listed_numbers) q ∙ there))

-- "Others 0"
pub words_zero : (s : Settled) (n : ℕ) → n < 256 → listed n ≡ false → word_at (identify_of s) n ≡ 0
unfolding identify_word number_word
words_zero s n h e =
    let a = neither (within 10 19 n) _ e in
    let b = neither (within 23 26 n) _ a.1 in
    let c = neither (within 27 46 n) _ b.1 in
    let none : (k : ℕ) → among k listed_numbers ≡ true → eqb n k ≡ false = λ k. apart n k c.1 in
    identify_word_law s n h ∙ simp (a.0, b.0, c.0, none)
