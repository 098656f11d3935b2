-- What the loop of read_words keeps: the words so far, and behind them what single reads still give, are what single reads give of all.
use mathlib.Core.Path.{◌≡◌, refl, sym, ap, ◌∙◌}
use mathlib.Core.Bool.{true, false}
use mathlib.Core.List.{List, ◌++◌, append-nil}
use Prim.Native.Nat.{ℕ, ◌+◌, ◌-◌, ◌*◌, ◌/◌, ◌≤◌, ◌<◌}
use native.Mathlib.Omega.{arith}
use lib.ListN.{length, take, drop, length-drop}
use lib.Seq.{length-take-le, length-paste, take-paste, drop-paste, drop-drop}
use Rattle.lock.specs.declared.Secrets.{Secrets}
use Rattle.settled.specs.declared.Settled.{Settled}
use Rattle.face.specs.Face.{face_with}
use Rattle.face.specs.declared.Hot.{Hot}
use Rattle.face.specs.declared.Face.{Face}
use Rattle.device.specs.Alone.{device_of, alone_of}
use Rattle.laws.proofs.ReadBack.{words_from}
use Rattle.glance.specs.Places.{place_of}
use Rattle.glance.specs.Glances.{hands_out}
use Rattle.words.specs.Words.{hands_none, read_words_of, words_in}
use Rattle.words.specs.Blocks.{read_up_to, Moved}
use Rattle.words.specs.Bulk.{device_with, Reads}
use Rattle.words.proofs.Bytes.{words_append, words_from_law}
use Rattle.words.proofs.BulkReads.{hands_behind, behind_behind, read_up_to_law, reads_none}

pub record Handing (h₀ : Hot) (s : Settled) (b₀ m out₀ : List ℕ) (h : Hot) (b out : List ℕ) (words : ℕ) : Type 0 where
  pub is : (x : Secrets) → read_words_of alone_of (length out₀ / 2) (device_with h₀ s b₀ x) m
      ≡ hands_behind (words_in (take (2 * words) out)) (read_words_of alone_of (length out₀ / 2 - words) (device_with h s b x) m)
  pub below : words ≤ length out₀ / 2
  pub long : length out ≡ length out₀
  pub behind : drop (2 * words) out ≡ drop (2 * words) out₀

pub handing_none : (h : Hot) (s : Settled) (b m out : List ℕ) → Handing h s b m out h b out 0
unfolding words_in
handing_none h s b m out =
    let e : length out / 2 ≡ length out / 2 - 0 = omega arith in
    record {
      is = λ x. ap (λ (n : ℕ). read_words_of alone_of n (device_with h s b x) m) e;
      below = omega arith;
      long = refl;
      behind = refl;
    }

-- the words that a turn hands out, behind those so far
handed_more : (b out out' : List ℕ) (p words c : ℕ) → 2 * words + 2 * c ≤ length out → 2 * p + 2 * c ≤ length b → Moved b (2 * p) out (2 * words) (2 * c) out'
    → words_in (take (2 * (words + c)) out') ≡ words_in (take (2 * words) out) ++ words_from b p c
handed_more b out out' p words c room source v =
    let e : 2 * (words + c) ≡ 2 * words + 2 * c = omega arith in
    let long : length (take (2 * words) out) ≡ 2 * words = length-take-le (2 * words) out (omega arith) in
    let left : 2 * c ≤ length (drop (2 * p) b) = simp length-drop (omega arith) in
    rw (e, v.is, take-paste out (2 * words) (drop (2 * p) b) (2 * c) (omega arith) left)
    (words_append (take (2 * words) out) (take (2 * c) (drop (2 * p) b)) (omega arith) ∙ ap (λ (l : List ℕ). words_in (take (2 * words) out) ++ l) (words_from_law b p c source))

pub handing_more : {h₀ : Hot} {s : Settled} {b₀ m out₀ : List ℕ} {h : Hot} {b out : List ℕ} {words : ℕ} → Handing h₀ s b₀ m out₀ h b out words
    → hands_out h.transfer ≡ true → length b ≡ 512 → (p : ℕ) → p ≡ place_of h.transfer → p < 256
    → (c : ℕ) → p + c ≤ 256 → words + c ≤ length out₀ / 2
    → (out' : List ℕ) → Moved b (2 * p) out (2 * words) (2 * c) out'
    → (h' : Hot) (b' : List ℕ) → face_with h' s b' ≡ read_up_to (face_with h s b) m (p + c)
    → Handing h₀ s b₀ m out₀ h' b' out' (words + c)
handing_more {h₀} {s} {b₀} {m} {out₀} {h} {b} {out} {words} k o whole p e l c u w out' v h' b' f =
    let long : length out ≡ length out₀ = k.long in
    let room : 2 * words + 2 * c ≤ length out = omega arith in
    let left : 2 * c ≤ length (drop (2 * p) b) = simp length-drop (omega arith) in
    let n : length out₀ / 2 - words ≡ c + (length out₀ / 2 - (words + c)) = omega arith in
    let j : 2 * words + 2 * c ≡ 2 * (words + c) = omega arith in
    record {
      is = λ x.
          k.is x
          ∙ ap (hands_behind (words_in (take (2 * words) out)))
          (ap (λ (i : ℕ). read_words_of alone_of i (device_with h s b x) m) n
          ∙ read_up_to_law h s b x m o c (length out₀ / 2 - (words + c)) p e l u
          ∙ ap (λ (i : Face). hands_behind (words_from b p c) (read_words_of alone_of (length out₀ / 2 - (words + c)) (device_of i x) m)) (sym f))
          ∙ behind_behind (words_in (take (2 * words) out)) (words_from b p c) (read_words_of alone_of (length out₀ / 2 - (words + c)) (device_with h' s b' x) m)
          ∙ ap (λ (i : List ℕ). hands_behind i (read_words_of alone_of (length out₀ / 2 - (words + c)) (device_with h' s b' x) m))
          (sym (handed_more b out out' p words c room (omega arith) v));
      below = omega arith;
      long = ap length v.is ∙ length-paste out (2 * words) (drop (2 * p) b) (2 * c) room left ∙ long;
      behind =
          rw (← j, v.is, drop-paste out (2 * words) (drop (2 * p) b) (2 * c) (omega arith) left, ← drop-drop (2 * c) (2 * words) out, k.behind)
          (drop-drop (2 * c) (2 * words) out₀);
    }

-- where single reads give no more, this is what they come to
handing_ends : {h₀ : Hot} {s : Settled} {b₀ m out₀ : List ℕ} {h : Hot} {b out : List ℕ} {words : ℕ} → Handing h₀ s b₀ m out₀ h b out words
    → ((x : Secrets) → read_words_of alone_of (length out₀ / 2 - words) (device_with h s b x) m ≡ hands_none (device_with h s b x) m)
    → Reads h₀ s b₀ m out₀ (record { hot = h; words = words }) b out
handing_ends {h₀} {s} {b₀} {m} {out₀} {h} {b} {out} {words} k g =
    record {
      handed = λ x.
          k.is x ∙ ap (hands_behind (words_in (take (2 * words) out))) (g x)
          ∙ ap (λ (l : List ℕ). record { words = l; device = device_with h s b x; sectors = m }) (append-nil (words_in (take (2 * words) out)));
      below = let w : words ≤ length out₀ / 2 = k.below in omega arith;
      long = k.long;
      behind = k.behind;
    }

-- a word is turned away
pub handing_refused : {h₀ : Hot} {s : Settled} {b₀ m out₀ : List ℕ} {h : Hot} {b out : List ℕ} {words : ℕ} → Handing h₀ s b₀ m out₀ h b out words
    → hands_out h.transfer ≡ false → Reads h₀ s b₀ m out₀ (record { hot = h; words = words }) b out
handing_refused {s = s} {m = m} {out₀ = out₀} {h = h} {b = b} {words = words} k o =
    handing_ends k (λ x. reads_none (length out₀ / 2 - words) (device_with h s b x) m o)

-- all that were wanted have passed
pub handing_done : {h₀ : Hot} {s : Settled} {b₀ m out₀ : List ℕ} {h : Hot} {b out : List ℕ} {words : ℕ} → Handing h₀ s b₀ m out₀ h b out words
    → length out₀ / 2 ≤ words → Reads h₀ s b₀ m out₀ (record { hot = h; words = words }) b out
unfolding read_words_of
handing_done {s = s} {m = m} {out₀ = out₀} {h = h} {b = b} {words = words} k l =
    let e : length out₀ / 2 - words ≡ 0 = omega arith in
    handing_ends k (λ x. ap (λ (n : ℕ). read_words_of alone_of n (device_with h s b x) m) e)
