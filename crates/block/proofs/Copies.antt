-- What a loop over bytes keeps: so many bytes copied, with a law for the start, for a turn and for the end.
use mathlib.Core.Path.{◌≡◌, refl, ap, ◌∙◌}
use mathlib.Core.List.{List, ◌++◌, append-nil}
use Prim.Native.Nat.{ℕ, ◌+◌, ◌≤◌, ◌<◌}
use native.Mathlib.Numerals.{add-one}
use native.Mathlib.Omega.{arith}
use lib.ListN.{length, get_or, take, drop, set, length-set, length-drop, drop_of_length-le}
use lib.Seq.{paste, paste-zero, paste-suc, get_or-drop}

-- j of the n bytes of s from `from` on have been copied over d's from `at` on, which gives out
pub record Copied (n : ℕ) (d s out : List ℕ) (at from j : ℕ) : Type 0 where
  pub below : j ≤ n
  pub room : at + n ≤ length d
  pub source : from + n ≤ length s
  pub long : length out ≡ length d
  pub is : out ≡ paste d at (drop from s) j

pub copied_none : (n : ℕ) (d s : List ℕ) (at from : ℕ) → at + n ≤ length d → from + n ≤ length s → Copied n d s d at from 0
copied_none n d s at from r o =
    record { below = omega arith; room = r; source = o; long = refl; is = paste-zero d at (drop from s) }

copy_more : (d s : List ℕ) (at from j k m : ℕ) → k ≡ at + j → m ≡ from + j → at + j < length d → from + j < length s
    → set (paste d at (drop from s) j) k (get_or s m 0) ≡ paste d at (drop from s) (j + 1)
copy_more d s at from j k m ek em hd hs =
    let h : j < length (drop from s) = simp length-drop (omega arith) in
    rw (ek, em, add-one j, ← get_or-drop from s j 0, paste-suc d at (drop from s) j 0)

pub copied_more : {n : ℕ} {d s out : List ℕ} {at from j : ℕ} (k m : ℕ) → Copied n d s out at from j → j < n → k ≡ at + j → m ≡ from + j
    → Copied n d s (set out k (get_or s m 0)) at from (j + 1)
copied_more {n} {d} {s} {out} {at} {from} {j} k m c h ek em =
    record {
      below = omega arith;
      room = c.room;
      source = c.source;
      long = simp length-set c.long;
      is = rw c.is (copy_more d s at from j k m ek em (omega arith) (omega arith));
    }

pub copied_done : {n : ℕ} {d s out : List ℕ} {at from j : ℕ} → Copied n d s out at from j → n ≤ j → out ≡ paste d at (drop from s) n
copied_done {n} {d} {s} {out} {at} {from} {j} c h =
    let e : j ≡ n = omega arith in c.is ∙ ap (λ (k : ℕ). paste d at (drop from s) k) e

-- a copy over the whole of d is what was copied
paste_whole : (d s : List ℕ) (n : ℕ) → length d ≡ n → paste d 0 s n ≡ take n s
paste_whole d s n e =
    let h : length d ≤ 0 + n = omega arith in
    ap (λ (l : List ℕ). take n s ++ l) (drop_of_length-le d h) ∙ append-nil (take n s)

pub copied_whole : {n : ℕ} {d s out : List ℕ} {from j : ℕ} → Copied n d s out 0 from j → length d ≡ n → n ≤ j → out ≡ take n (drop from s)
copied_whole {n} {d} {s} {out} {from} {j} c l h = copied_done c h ∙ paste_whole d (drop from s) n l
