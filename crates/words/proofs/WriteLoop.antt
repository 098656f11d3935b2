-- What the loop of write_words keeps: single writes of the words so far lead to where it stands.
use mathlib.Core.Path.{◌≡◌, refl, sym, ap, ◌∙◌}
use mathlib.Core.Bool.{false}
use mathlib.Core.List.{List, [], ◌∷◌, ◌++◌, append-nil}
use Prim.Native.Nat.{ℕ, ◌+◌, ◌*◌, ◌/◌, ◌≤◌, ◌<◌}
use native.Mathlib.Omega.{arith}
use lib.ListN.{length, take, drop, length-drop, take-append-drop}
use lib.Seq.{length-take-le, get_or-drop, take-add}
use borrow.Author.Tests.{le-ltb}
use Rattle.lock.specs.declared.Secrets.{Secrets}
use Rattle.settled.specs.declared.Settled.{Settled}
use Rattle.face.specs.Face.{face_with}
use Rattle.face.specs.declared.Hot.{Hot}
use Rattle.face.specs.declared.Transfer.{Transfer}
use Rattle.face.specs.declared.Transfer.TheVariants.{Idle, Reading, Writing, ReadingBuffer, WritingBuffer, TakingPassword}
use Rattle.device.specs.Alone.{device_of}
use Rattle.device.specs.declared.Device.{Device}
use Rattle.laws.proofs.ReadBack.{put_all}
use Rattle.glance.specs.Places.{place_of}
use Rattle.words.specs.Words.{Taken, takes_none, taken_behind, write_words_of, words_in}
use Rattle.words.specs.Blocks.{takes_to, takes_here, written_up_to, stored_up_to, Moved}
use Rattle.words.specs.Bulk.{device_with, here_of, Writes}
use Rattle.words.proofs.Bytes.{words_append, front_length, put_pasted}
use Rattle.words.proofs.BulkWrites.{writes_append, written_up_to_law}

pub record Taking (h₀ : Hot) (s : Settled) (b₀ m₀ bytes : List ℕ) (h : Hot) (b m : List ℕ) (words : ℕ) : Type 0 where
  pub passed : (x : Secrets) → write_words_of here_of (words_in (take (2 * words) bytes)) (device_with h₀ s b₀ x) m₀
      ≡ record { count = words; device = device_with h s b x; sectors = m }
  pub below : 2 * words ≤ length bytes
  pub long : length m ≡ length m₀

pub taking_none : (h : Hot) (s : Settled) (b m bytes : List ℕ) → Taking h s b m bytes h b m 0
unfolding words_in write_words_of
taking_none h s b m bytes = record { passed = λ x. refl; below = omega arith; long = refl }

-- single writes of more words: of those behind the words so far, from where it stands
passed_then : {h₀ : Hot} {s : Settled} {b₀ m₀ bytes : List ℕ} {h : Hot} {b m : List ℕ} {words : ℕ} → Taking h₀ s b₀ m₀ bytes h b m words → (l : List ℕ) (x : Secrets)
    → write_words_of here_of (words_in (take (2 * words) bytes) ++ l) (device_with h₀ s b₀ x) m₀ ≡ taken_behind words (write_words_of here_of l (device_with h s b x) m)
passed_then {h₀} {s} {b₀} {m₀} {bytes} {h} {b} {m} {words} k l x =
    let n = front_length bytes words k.below in
    writes_append here_of (words_in (take (2 * words) bytes)) l (device_with h₀ s b₀ x) m₀ (ap (λ (t : Taken). t.count) (k.passed x) ∙ sym n)
    ∙ ap (λ (t : Taken). taken_behind (length (words_in (take (2 * words) bytes))) (write_words_of here_of l t.device t.sectors)) (k.passed x)
    ∙ ap (λ (i : ℕ). taken_behind i (write_words_of here_of l (device_with h s b x) m)) n

-- bytes in two parts, the first of whole words
words_split : (bytes : List ℕ) (words : ℕ) → 2 * words ≤ length bytes → words_in bytes ≡ words_in (take (2 * words) bytes) ++ words_in (drop (2 * words) bytes)
words_split bytes words l =
    let long : length (take (2 * words) bytes) ≡ 2 * words = length-take-le (2 * words) bytes l in
    ap words_in (sym (take-append-drop (2 * words) bytes)) ∙ words_append (take (2 * words) bytes) (drop (2 * words) bytes) (omega arith)

-- the words so far, and the next ones
words_more : (bytes : List ℕ) (words c : ℕ) → 2 * words ≤ length bytes
    → words_in (take (2 * (words + c)) bytes) ≡ words_in (take (2 * words) bytes) ++ words_in (take (2 * c) (drop (2 * words) bytes))
words_more bytes words c l =
    let long : length (take (2 * words) bytes) ≡ 2 * words = length-take-le (2 * words) bytes l in
    let e : 2 * (words + c) ≡ 2 * words + 2 * c = omega arith in
    ap (λ (n : ℕ). words_in (take n bytes)) e ∙ ap words_in (take-add (2 * words) (2 * c) bytes)
    ∙ words_append (take (2 * words) bytes) (take (2 * c) (drop (2 * words) bytes)) (omega arith)

-- the buffer that a turn copies them into
put_moved : (bytes b b' : List ℕ) (p words c : ℕ) → 2 * words + 2 * c ≤ length bytes → 2 * p + 2 * c ≤ length b → Moved bytes (2 * words) b (2 * p) (2 * c) b'
    → put_all b p (words_in (take (2 * c) (drop (2 * words) bytes))) ≡ b'
put_moved bytes b b' p words c source room v =
    let left : 2 * c ≤ length (drop (2 * words) bytes) = simp length-drop (omega arith) in
    put_pasted c b p (drop (2 * words) bytes) room left (λ i l. rw (get_or-drop (2 * words) bytes i 0) (v.bytes i l)) ∙ sym v.is

-- single writes of these words, by what they leave
turn_taken : (h : Hot) (s : Settled) (b : List ℕ) (x : Secrets) (m ws : List ℕ) (p : ℕ) → p ≡ place_of h.transfer → p < takes_to h.transfer
    → (c : ℕ) → length ws ≡ c → p + c ≤ takes_to h.transfer → (b' : List ℕ) → put_all b p ws ≡ b'
    → (h' : Hot) → face_with h' s b' ≡ written_up_to (face_with h s b') (p + c)
    → (m' : List ℕ) → m' ≡ stored_up_to (face_with h s b') m (p + c)
    → write_words_of here_of ws (device_with h s b x) m ≡ record { count = c; device = device_with h' s b' x; sectors = m' }
unfolding write_words_of
turn_taken h s b x m ws p e i c n u b' v h' f m' g =
    let z : c + 0 ≡ c = omega arith in
    ap (λ (l : List ℕ). write_words_of here_of l (device_with h s b x) m) (sym (append-nil ws))
    ∙ written_up_to_law h s b x m ws [] p e i (omega arith)
    ∙ ap (λ (k : ℕ). taken_behind k (record { count = 0; device = device_of (written_up_to (face_with h s (put_all b p ws)) (p + k)) x; sectors = stored_up_to (face_with h s (put_all b p ws)) m (p + k) })) n
    ∙ ap (λ (q : List ℕ). taken_behind c (record { count = 0; device = device_of (written_up_to (face_with h s q) (p + c)) x; sectors = stored_up_to (face_with h s q) m (p + c) })) v
    ∙ (λ k. record { count = z k; device = device_of (sym f k) x; sectors = sym g k })

pub taking_more : {h₀ : Hot} {s : Settled} {b₀ m₀ bytes : List ℕ} {h : Hot} {b m : List ℕ} {words : ℕ} → Taking h₀ s b₀ m₀ bytes h b m words
    → length b ≡ 512 → (p : ℕ) → p ≡ place_of h.transfer → p < takes_to h.transfer
    → (c : ℕ) → p + c ≤ takes_to h.transfer → 2 * p + 2 * c ≤ 512 → 2 * words + 2 * c ≤ length bytes
    → (b' : List ℕ) → Moved bytes (2 * words) b (2 * p) (2 * c) b'
    → (h' : Hot) → face_with h' s b' ≡ written_up_to (face_with h s b') (p + c)
    → (m' : List ℕ) → m' ≡ stored_up_to (face_with h s b') m (p + c) → length m' ≡ length m
    → Taking h₀ s b₀ m₀ bytes h' b' m' (words + c)
taking_more {h₀} {s} {b₀} {m₀} {bytes} {h} {b} {m} {words} k whole p e l c u room source b' v h' f m' g n =
    let left : 2 * c ≤ length (drop (2 * words) bytes) = simp length-drop (omega arith) in
    record {
      passed = λ x.
          ap (λ (ws : List ℕ). write_words_of here_of ws (device_with h₀ s b₀ x) m₀) (words_more bytes words c k.below)
          ∙ passed_then k (words_in (take (2 * c) (drop (2 * words) bytes))) x
          ∙ ap (taken_behind words) (turn_taken h s b x m (words_in (take (2 * c) (drop (2 * words) bytes))) p e l c
          (front_length (drop (2 * words) bytes) c left) u b' (put_moved bytes b b' p words c source (omega arith) v) h' f m' g);
      below = omega arith;
      long = n ∙ k.long;
    }

here_none : (l : List ℕ) (d : Device) (m : List ℕ) → takes_here d.face.hot.transfer ≡ false → write_words_of here_of l d m ≡ takes_none d m
unfolding write_words_of here_of
here_none [] d m e = refl
here_none (w ∷ l) d m e = rw e

words_few : (l : List ℕ) → length l < 2 → words_in l ≡ []
unfolding words_in
words_few [] h = refl
words_few (x ∷ []) h = refl
words_few (x ∷ y ∷ l) h = absurd (omega arith)

-- a transfer whose next word is not taken in here
takes_none_law : (t : Transfer) → takes_to t ≤ place_of t → place_of t < 256 → takes_here t ≡ false
takes_none_law Idle h l = refl
takes_none_law (Reading r) h l = refl
takes_none_law (Writing r) h l = absurd (omega arith)
takes_none_law (ReadingBuffer n) h l = refl
takes_none_law (WritingBuffer n) h l = absurd (omega arith)
takes_none_law (TakingPassword p) h l = le-ltb p.word 255 h

-- the rest of the bytes is taken no word of
taking_ends : {h₀ : Hot} {s : Settled} {b₀ m₀ bytes : List ℕ} {h : Hot} {b m : List ℕ} {words : ℕ} → Taking h₀ s b₀ m₀ bytes h b m words
    → ((x : Secrets) → write_words_of here_of (words_in (drop (2 * words) bytes)) (device_with h s b x) m ≡ takes_none (device_with h s b x) m)
    → Writes h₀ s b₀ m₀ bytes (record { hot = h; words = words }) b m
taking_ends {h₀} {s} {b₀} {m₀} {bytes} {h} {b} {m} {words} k none =
    let e : words + 0 ≡ words = omega arith in
    record {
      taken = λ x.
          ap (λ (ws : List ℕ). write_words_of here_of ws (device_with h₀ s b₀ x) m₀) (words_split bytes words k.below)
          ∙ passed_then k (words_in (drop (2 * words) bytes)) x
          ∙ ap (taken_behind words) (none x)
          ∙ ap (λ (n : ℕ). record { count = n; device = device_with h s b x; sectors = m }) e;
      long = k.long;
    }

-- the next word is not taken in here
pub taking_refused : {h₀ : Hot} {s : Settled} {b₀ m₀ bytes : List ℕ} {h : Hot} {b m : List ℕ} {words : ℕ} → Taking h₀ s b₀ m₀ bytes h b m words
    → (p : ℕ) → p ≡ place_of h.transfer → p < 256 → (end : ℕ) → end ≡ takes_to h.transfer → end ≤ p
    → Writes h₀ s b₀ m₀ bytes (record { hot = h; words = words }) b m
taking_refused {s = s} {bytes = bytes} {h = h} {b = b} {m = m} {words = words} k p e l end f g =
    taking_ends k (λ x. here_none (words_in (drop (2 * words) bytes)) (device_with h s b x) m (takes_none_law h.transfer (omega arith) (omega arith)))

-- all words have passed
pub taking_done : {h₀ : Hot} {s : Settled} {b₀ m₀ bytes : List ℕ} {h : Hot} {b m : List ℕ} {words : ℕ} → Taking h₀ s b₀ m₀ bytes h b m words
    → length bytes / 2 ≤ words → Writes h₀ s b₀ m₀ bytes (record { hot = h; words = words }) b m
unfolding write_words_of
taking_done {s = s} {bytes = bytes} {h = h} {b = b} {m = m} {words = words} k l =
    taking_ends k (λ x. ap (λ (ws : List ℕ). write_words_of here_of ws (device_with h s b x) m) (words_few (drop (2 * words) bytes) (simp length-drop (omega arith))))
