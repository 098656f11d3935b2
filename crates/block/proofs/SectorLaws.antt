-- A stored sector is read back, every byte outside it is as it was, and zeroed memory holds zero sectors.
use Prim.Native.Nat.{ℕ, ◌+◌, ◌-◌, ◌*◌, ◌≤◌, ◌<◌}
use mathlib.Core.Path.{◌≡◌, sym, ap, ◌∙◌}
use mathlib.Core.Logic.{◌⊎◌, inl, inr}
use mathlib.Core.List.{List, ◌++◌, append_assoc}
use native.Mathlib.Omega.{arith}
use borrow.Author.Tests.{ltb-true, ltb-false}
use lib.Dec.{ltb}
use lib.ListN.{length, get_or, take, drop, replicate, length-take, length-drop, length-replicate, replicate-append-replicate, get_or-append}
use lib.Seq.{paste, length-paste, length-take-le, take_all, take_at, drop_at, get_or-take, get_or-drop, get_or-append-add, ext_get_or, length_paste_head}
use Rattle.base.proofs.Tests.{either_way}
use Rattle.block.specs.Sectors.{zero_block, sector_at, stored_at, zeroed}

-- the memory has a sector n, and b is a block
pub record Room (s : List ℕ) (n : ℕ) (b : List ℕ) : Type 0 where
  pub inside : 512 * n + 512 ≤ length s
  pub whole : length b ≡ 512

pub stored_length : {s : List ℕ} {n : ℕ} {b : List ℕ} → Room s n b → length (stored_at s n b) ≡ length s
unfolding stored_at
stored_length {s} {n} {b} r = length-paste s (512 * n) b 512 r.inside (omega (arith, r.whole))

-- "a sector written is the sector read back"
pub stored_same : {s : List ℕ} {n : ℕ} {b : List ℕ} → Room s n b → sector_at (stored_at s n b) n ≡ b
unfolding sector_at stored_at
stored_same {s} {n} {b} r =
    let before : length (take (512 * n) s) ≡ 512 * n = length-take-le (512 * n) s (omega (arith, r.inside)) in
    let b' : length (take 512 b) ≡ 512 = length-take-le 512 b (omega (arith, r.whole)) in
    rw (
      append_assoc (take (512 * n) s) (take 512 b) (drop (512 * n + 512) s),
      drop_at (take (512 * n) s) (take 512 b ++ drop (512 * n + 512) s) (512 * n) before,
      take_at (take 512 b) (drop (512 * n + 512) s) 512 b',
    )
    (take_all 512 b (omega (arith, r.whole)))

-- "all other bytes unchanged"
pub stored_outside : {s : List ℕ} {n : ℕ} {b : List ℕ} → Room s n b → (i : ℕ) → (i < 512 * n) ⊎ (512 * n + 512 ≤ i)
    → get_or (stored_at s n b) i 0 ≡ get_or s i 0
unfolding stored_at
stored_outside {s} {n} {b} r i (inl l) =
    let before : length (take (512 * n) s) ≡ 512 * n = length-take-le (512 * n) s (omega (arith, r.inside)) in
    rw (append_assoc (take (512 * n) s) (take 512 b) (drop (512 * n + 512) s))
    (get_or-append (take (512 * n) s) (take 512 b ++ drop (512 * n + 512) s) 0 i (omega (arith, before)) ∙ get_or-take (512 * n) s i 0 l)
stored_outside {s} {n} {b} r i (inr l) =
    let head : length (take (512 * n) s ++ take 512 b) ≡ 512 * n + 512 =
    length_paste_head s (512 * n) b 512 (omega (arith, r.inside)) (omega (arith, r.whole)) in
    let k : i ≡ length (take (512 * n) s ++ take 512 b) + (i - (512 * n + 512)) = omega arith in
    let j : 512 * n + 512 + (i - (512 * n + 512)) ≡ i = omega arith in
    ap (λ (m : ℕ). get_or (paste s (512 * n) b 512) m 0) k
    ∙ get_or-append-add (take (512 * n) s ++ take 512 b) (drop (512 * n + 512) s) (i - (512 * n + 512)) 0
    ∙ get_or-drop (512 * n + 512) s (i - (512 * n + 512)) 0
    ∙ ap (λ (m : ℕ). get_or s m 0) j

-- "other sectors untouched"
pub stored_other : {s : List ℕ} {n : ℕ} {b : List ℕ} → Room s n b → (m : ℕ) → (m ≡ n → ⊥) → sector_at (stored_at s n b) m ≡ sector_at s m
unfolding sector_at
stored_other {s} {n} {b} r m apart =
    ext_get_or 0 (take 512 (drop (512 * m) (stored_at s n b))) (take 512 (drop (512 * m) s)) long byte
  where
    long : length (take 512 (drop (512 * m) (stored_at s n b))) ≡ length (take 512 (drop (512 * m) s))
    long = simp (length-take, length-drop, stored_length r)

    side : (i : ℕ) → i < 512 → (512 * m + i < 512 * n) ⊎ (512 * n + 512 ≤ 512 * m + i)
    side i l =
        either_way (ltb m n)
        (λ e. let p = ltb-true m n e in inl (omega arith))
        (λ e. let p = ltb-false m n e in inr (omega arith))

    byte : (i : ℕ) → i < length (take 512 (drop (512 * m) (stored_at s n b)))
        → get_or (take 512 (drop (512 * m) (stored_at s n b))) i 0 ≡ get_or (take 512 (drop (512 * m) s)) i 0
    byte i l =
        let h : i < 512 = short i l in
        get_or-take 512 (drop (512 * m) (stored_at s n b)) i 0 h ∙ get_or-drop (512 * m) (stored_at s n b) i 0
        ∙ stored_outside r (512 * m + i) (side i h)
        ∙ sym (get_or-take 512 (drop (512 * m) s) i 0 h ∙ get_or-drop (512 * m) s i 0)
      where
        short : (i : ℕ) → i < length (take 512 (drop (512 * m) (stored_at s n b))) → i < 512
        short i l = let k = simp length-take at l in omega arith

-- n of the same bytes in the middle
zeros_inside : (z a n c : ℕ) → take n (drop a (replicate (a + (n + c)) z)) ≡ replicate n z
zeros_inside z a n c =
    rw (
      ← replicate-append-replicate a (n + c) z,
      ← replicate-append-replicate n c z,
      drop_at (replicate a z) (replicate n z ++ replicate c z) a (length-replicate a z),
      take_at (replicate n z) (replicate c z) n (length-replicate n z),
    )

pub zeroed_length : (s : List ℕ) → length (zeroed s) ≡ length s
unfolding zeroed
zeroed_length s = length-replicate (length s) 0

-- "all sectors zero"
pub zeroed_sector : (s : List ℕ) (n : ℕ) → 512 * n + 512 ≤ length s → sector_at (zeroed s) n ≡ zero_block
unfolding sector_at zeroed zero_block
zeroed_sector s n h =
    let k : length s ≡ 512 * n + (512 + (length s - (512 * n + 512))) = omega arith in
    rw k (zeros_inside 0 (512 * n) 512 (length s - (512 * n + 512)))
