-- Bytes as words: of lists behind one another, of a part of a block, and of bytes put into a block.
use mathlib.Core.Path.{◌≡◌, refl, ap, ◌∙◌}
use mathlib.Core.List.{List, [], ◌∷◌, ◌++◌, append_assoc}
use Prim.Native.Nat.{ℕ, zero, suc, ◌+◌, ◌*◌, ◌/◌, ◌%◌, ◌≤◌, ◌<◌}
use native.Mathlib.Numerals.{add-one}
use native.Mathlib.Omega.{arith}
use lib.ListN.{length, get_or, take, drop, set, length-set}
use lib.Seq.{length-take-le, drop-cons, take-suc-set, drop-set-lt, paste, paste-zero}
use Rattle.block.specs.Words.{word_at, word_put}
use Rattle.block.proofs.WordLaws.{put_length}
use Rattle.laws.proofs.ReadBack.{put_all, words_from}
use Rattle.words.specs.Words.{words_in}

pub words_append : (xs ys : List ℕ) → length xs % 2 ≡ 0 → words_in (xs ++ ys) ≡ words_in xs ++ words_in ys
unfolding words_in
words_append [] ys e = refl
words_append (x ∷ []) ys e = absurd (omega arith)
words_append (x ∷ y ∷ l) ys e = rw (words_append l ys (omega arith))

-- the words of a part of a block
pub words_from_law : (b : List ℕ) (p k : ℕ) → 2 * p + 2 * k ≤ length b → words_in (take (2 * k) (drop (2 * p) b)) ≡ words_from b p k
unfolding words_in words_from word_at
words_from_law b p zero h = refl
words_from_law b p (suc k) h =
    let e : 2 * suc k ≡ suc (suc (2 * k)) = omega arith in
    let f : suc (suc (2 * p)) ≡ 2 * (p + 1) = omega arith in
    rw (e, drop-cons b (2 * p) 0 (omega arith), drop-cons b (suc (2 * p)) 0 (omega arith), f, words_from_law b (p + 1) k (omega arith), add-one (2 * p))

pub words_length : (xs : List ℕ) → length (words_in xs) ≡ length xs / 2
unfolding words_in
words_length [] = refl
words_length (x ∷ []) = refl
words_length (x ∷ y ∷ l) = let e : length (words_in l) ≡ length l / 2 = words_length l in omega arith

half : (i : ℕ) → 2 * i / 2 ≡ i
half i = omega arith

-- so many words at the front of bytes
pub front_length : (bytes : List ℕ) (words : ℕ) → 2 * words ≤ length bytes → length (words_in (take (2 * words) bytes)) ≡ words
front_length bytes words l = words_length (take (2 * words) bytes) ∙ ap (λ (i : ℕ). i / 2) (length-take-le (2 * words) bytes l) ∙ half words

-- a word put at the front of what a copy brings
put_front : (b l : List ℕ) (p k x y : ℕ) → 2 * p + 2 ≤ length b → x < 256
    → paste (word_put b p (x + 256 * y)) (2 * (p + 1)) l (2 * k) ≡ paste b (2 * p) (x ∷ y ∷ l) (2 * suc k)
unfolding word_put
put_front b l p k x y h z =
    let low : (x + 256 * y) % 256 ≡ x = omega arith in
    let high : (x + 256 * y) / 256 ≡ y = omega arith in
    let at : 2 * (p + 1) ≡ suc (suc (2 * p)) = omega arith in
    let n : 2 * suc k ≡ suc (suc (2 * k)) = omega arith in
    let end : suc (suc (2 * p)) + 2 * k ≡ 2 * p + suc (suc (2 * k)) = omega arith in
    rw (
      at,
      n,
      low,
      high,
      add-one (2 * p),
      take-suc-set (set b (2 * p) x) (suc (2 * p)) y (simp length-set (omega arith)),
      take-suc-set b (2 * p) x (omega arith),
      drop-set-lt (suc (suc (2 * p)) + 2 * k) (set b (2 * p) x) (suc (2 * p)) y (omega arith),
      drop-set-lt (suc (suc (2 * p)) + 2 * k) b (2 * p) x (omega arith),
      end,
    )
    (simp append_assoc)

-- words put into a block are their bytes copied into it
pub put_pasted : (k : ℕ) (b : List ℕ) (p : ℕ) (l : List ℕ) → 2 * p + 2 * k ≤ length b → 2 * k ≤ length l → ((i : ℕ) → i < 2 * k → get_or l i 0 < 256)
    → put_all b p (words_in (take (2 * k) l)) ≡ paste b (2 * p) l (2 * k)
unfolding put_all words_in
put_pasted zero b p l h r z = paste-zero b (2 * p) l
put_pasted (suc k) b p [] h r z = absurd (omega arith)
put_pasted (suc k) b p (x ∷ []) h r z = absurd (let q : 2 * suc k ≤ 1 = r in omega arith)
put_pasted (suc k) b p (x ∷ y ∷ l) h r z =
    let e : 2 * suc k ≡ suc (suc (2 * k)) = omega arith in
    let long : length (word_put b p (x + 256 * y)) ≡ length b = put_length b p (x + 256 * y) in
    ap (λ (n : ℕ). put_all b p (words_in (take n (x ∷ y ∷ l)))) e
    ∙ put_pasted k (word_put b p (x + 256 * y)) (p + 1) l (omega arith) (omega arith) (λ i q. z (suc (suc i)) (omega arith))
    ∙ put_front b l p k x y (omega arith) (z 0 (omega arith))
