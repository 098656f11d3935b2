-- What the loop over the words keeps: so many words stand in the block.
use Prim.Native.Nat.{ℕ, zero, suc, ◌+◌, ◌*◌, ◌/◌, ◌%◌, ◌<◌}
use mathlib.Core.Path.{◌≡◌, refl, sym, ap, ◌∙◌}
use mathlib.Core.List.{List, [], ◌∷◌, ◌++◌}
use native.Mathlib.Numerals.{add-one}
use native.Mathlib.Omega.{arith}
use Rattle.std.proofs.lemmas.List.{append_assoc, take_more_set, take_all}
use Rattle.std.proofs.lemmas.Grind.{take-set_at}
use lib.ListN.{length, take, set, length-set, length-append}
use Rattle.block.specs.Words.{word_put}
use Rattle.settled.specs.declared.Settled.{Settled}
use Rattle.identify.specs.Words.{identify_word}
use Rattle.identify.specs.Identify.{words_of, identify_of}

-- two bytes a word
pub words_length : (s : Settled) (k : ℕ) → length (words_of s k) ≡ 2 * k
unfolding words_of
words_length s zero = refl
words_length s (suc k) =
    let e : length (words_of s k) ≡ 2 * k = words_length s k in
    length-append (words_of s k) _ ∙ omega arith

-- the word behind them
pub one_more : (s : Settled) (b : List ℕ) (n w : ℕ) → length b ≡ 512 → n < 256 → take (2 * n) b ≡ words_of s n → w ≡ identify_word s n
    → take (2 * (n + 1)) (word_put b n w) ≡ words_of s (n + 1)
unfolding words_of word_put
one_more s b n w l h t e =
    take-set_at (set b (2 * n) (w % 256)) (2 * n + 1) (2 * (n + 1)) (w / 256) (omega arith) (simp length-set (omega arith))
    ∙ ap (λ (x : List ℕ). x ++ (w / 256 ∷ [])) (take_more_set b (2 * n) (w % 256) (omega arith))
    ∙ rw (add-one n, t, e, append_assoc)

-- 256 of them are the block
pub whole : (s : Settled) (b : List ℕ) (n : ℕ) → length b ≡ 512 → n ≡ 256 → take (2 * n) b ≡ words_of s n → b ≡ identify_of s
unfolding identify_of
whole s b n l h e = sym (take_all (2 * n) b (omega arith)) ∙ e ∙ ap (words_of s) h
