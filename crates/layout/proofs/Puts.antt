-- Bytes put one piece behind the other: pieces that meet are put as one.
use mathlib.Core.Path.{◌≡◌, refl, sym, ap, ◌∙◌}
use mathlib.Core.List.{List, [], ◌∷◌, ◌++◌, append-nil}
use Prim.Native.Nat.{ℕ, suc, ◌+◌, ◌≤◌}
use native.Mathlib.Omega.{arith}
use lib.ListN.{length, take, drop, set, length-append, drop_of_length-le}
use lib.Seq.{sets, sets-eq, take-length}
use borrow.Rule.Slice.PartMut.{put_mid}
use Rattle.std.proofs.lemmas.Slice.{put_mid-paste}
use Rattle.face.specs.declared.Transfer.{Transfer}
use Rattle.face.specs.declared.Transfer.TheVariants.{Idle, Reading, Writing, ReadingBuffer, WritingBuffer, TakingPassword}
use Rattle.face.specs.declared.Hot.{Hot}
use Rattle.layout.specs.Bytes.{hot_bytes}

-- a piece written over as many bytes is the piece put
pub written_sets : (b s t : List ℕ) (at n : ℕ) → at + length s ≤ length b → n ≡ length s → t ≡ s → put_mid at n b t ≡ sets b at s
written_sets b s t at n w e f =
    put_mid-paste at n b t s (length s) f (sym e) refl ∙ ap (λ (x : List ℕ). take at b ++ x ++ drop (at + length s) b) (take-length s) ∙ sym (sets-eq s b at w)

-- a piece put right behind another is both put as one
pub sets_append : (xs ys l : List ℕ) (i j : ℕ) → i + length xs ≡ j → sets (sets l i xs) j ys ≡ sets l i (xs ++ ys)
sets_append [] ys l i j e = let q : j ≡ i = omega (arith, e) in ap (λ (k : ℕ). sets l k ys) q
sets_append (x ∷ xs) ys l i j e = let q : suc i + length xs ≡ j = omega (arith, e) in sets_append xs ys (set l i x) (suc i) j q

-- the three pieces of an identity
pub put_identity : (b s f m : List ℕ) → length s ≡ 20 → length f ≡ 8 → length m ≡ 40
    → (sets (sets (sets b 31 s) 51 f) 59 m ≡ sets b 31 (s ++ (f ++ m))) × (length (s ++ (f ++ m)) ≡ 68)
put_identity b s f m ls lf lm =
    let at : 31 + length s ≡ 51 = omega (arith, ls) in
    let next : 51 + length f ≡ 59 = omega (arith, lf) in
    let e : length (s ++ (f ++ m)) ≡ length s + (length f + length m) = length-append s (f ++ m) ∙ ap (λ (n : ℕ). length s + n) (length-append f m) in
    (sets_append f m (sets b 31 s) 51 59 next ∙ sets_append s (f ++ m) b 31 51 at, omega (arith, e, ls, lf, lm))

-- the two passwords
pub put_secrets : (b u p : List ℕ) → length u ≡ 32 → length p ≡ 32 → (sets (sets b 99 u) 131 p ≡ sets b 99 (u ++ p)) × (length (u ++ p) ≡ 64)
put_secrets b u p lu lp =
    let at : 99 + length u ≡ 131 = omega (arith, lu) in
    let e = length-append u p in
    (sets_append u p b 99 131 at, omega (arith, e, lu, lp))

-- hot part, numbers and identity
pub put_front : (b h n i : List ℕ) → length h ≡ 18 → length n ≡ 13 → length i ≡ 68
    → (sets (sets (sets b 0 h) 18 n) 31 i ≡ sets b 0 (h ++ (n ++ i))) × (length (h ++ (n ++ i)) ≡ 99)
put_front b h n i lh ln li =
    let at : 0 + length h ≡ 18 = omega (arith, lh) in
    let next : 18 + length n ≡ 31 = omega (arith, ln) in
    let e : length (h ++ (n ++ i)) ≡ length h + (length n + length i) = length-append h (n ++ i) ∙ ap (λ (k : ℕ). length h + k) (length-append n i) in
    (sets_append n i (sets b 0 h) 18 31 next ∙ sets_append h (n ++ i) b 0 18 at, omega (arith, e, lh, ln, li))

-- the front's bytes, put over a state, and all that was behind them
pub front_over : (b f : List ℕ) → length b ≡ 163 → length f ≡ 99 → sets b 0 f ≡ f ++ drop 99 b
front_over b f lb lf =
    let w : 0 + length f ≤ length b = omega (arith, lb, lf) in
    let e : 0 + length f ≡ 99 = omega (arith, lf) in
    sets-eq f b 0 w ∙ ap (λ (k : ℕ). f ++ drop k b) e

-- and the passwords behind them are the whole
pub put_all_law : (b f x : List ℕ) → length b ≡ 163 → length f ≡ 99 → length x ≡ 64 → sets (sets b 0 f) 99 x ≡ f ++ x
put_all_law b f x lb lf lx =
    let at : 0 + length f ≡ 99 = omega (arith, lf) in
    let e = length-append f x in
    let w : 0 + length (f ++ x) ≤ length b = omega (arith, e, lb, lf, lx) in
    let none : length b ≤ 0 + length (f ++ x) = omega (arith, e, lb, lf, lx) in
    sets_append f x b 0 99 at
    ∙ sets-eq (f ++ x) b 0 w
    ∙ ap (λ (l : List ℕ). f ++ x ++ l) (drop_of_length-le b none)
    ∙ append-nil (f ++ x)

pub hot_bytes_long : (h : Hot) → length (hot_bytes h) ≡ 18
hot_bytes_long h = long h.transfer
  where
    long : (t : Transfer) → length (hot_bytes (record { regs = h.regs; signals = h.signals; transfer = t })) ≡ 18
    long Idle = refl
    long (Reading r) = refl
    long (Writing r) = refl
    long (ReadingBuffer n) = refl
    long (WritingBuffer n) = refl
    long (TakingPassword b) = refl
