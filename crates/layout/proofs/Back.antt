-- Bytes that are formed are those of the device that they hold.
use mathlib.Core.Bool.{Bool, true, false, ◌&&◌}
use mathlib.Core.Path.{◌≡◌, refl, sym, ap, ◌∙◌}
use mathlib.Core.List.{List, [], ◌∷◌, ◌++◌, append_assoc}
use Prim.Native.Nat.{ℕ, zero, suc, ◌+◌, ◌*◌, ◌/◌, ◌%◌, ◌≤◌, ◌<◌}
use native.Mathlib.Omega.{arith}
use borrow.Author.Tests.{ltb-true, eqb-true, ne_eqb}
use lib.Dec.{ltb, eqb}
use lib.ListN.{length, get_or, take, drop, length-drop, take-append-drop}
use lib.Seq.{drop-cons, drop-drop, take_all}
use Rattle.base.proofs.Tests.{false≢true, both_true}
use Rattle.layout.specs.Stored.{mark_stored, transfer_as, transfer_stored, hot_stored, lock_stored, settled_stored, secrets_stored, device_stored, mark_formed, marks_formed, no_run_stored, transfer_formed_as, transfer_formed, formed_of, state_length}
use Rattle.layout.specs.Bytes.{mark_byte, transfer_bytes, hot_bytes, lock_byte, number_bytes, identity_bytes, secrets_bytes, rest_bytes, state_of}

-- n bytes from place i on, one by one
abbrev bytes_from : List ℕ → ℕ → ℕ → List ℕ
bytes_from b i zero = []
bytes_from b i (suc n) = get_or b i 0 ∷ bytes_from b (suc i) n

part_bytes : (b : List ℕ) (n i : ℕ) → i + n ≤ length b → take n (drop i b) ≡ bytes_from b i n
part_bytes b zero i h = refl
part_bytes b (suc n) i h =
    let p : i < length b = omega arith in
    let q : suc i + n ≤ length b = omega arith in
    ap (take (suc n)) (drop-cons b i 0 p) ∙ ap (λ (l : List ℕ). get_or b i 0 ∷ l) (part_bytes b n (suc i) q)

and_true : (a b : Bool) → (a && b) ≡ true → (a ≡ true) × (b ≡ true)
and_true true b e = (refl, e)
and_true false b e = absurd (false≢true e)

all_three : (a b c : Bool) → (a && b && c) ≡ true → (a ≡ true) × ((b ≡ true) × (c ≡ true))
all_three a b c e = let t = and_true (a && b) c e in let u = and_true a b t.0 in (u.0, (u.1, t.1))

all_five : (a b c d f : Bool) → (a && b && c && d && f) ≡ true
    → (a ≡ true) × ((b ≡ true) × ((c ≡ true) × ((d ≡ true) × (f ≡ true))))
all_five a b c d f e =
    let t = and_true (a && b && c && d) f e in
    let u = and_true (a && b && c) d t.0 in
    let v = all_three a b c u.0 in
    (v.0, (v.1.0, (v.1.1, (u.1, t.1))))

mark_back : (x : ℕ) → mark_formed x ≡ true → mark_byte (mark_stored x) ≡ x
mark_back zero e = refl
mark_back (suc zero) e = refl
mark_back (suc (suc n)) e = let h : suc (suc n) < 2 = ltb-true _ _ e in absurd (omega arith)

lock_back : (x : ℕ) → ltb x 3 ≡ true → lock_byte (lock_stored x) ≡ x
unfolding lock_stored
lock_back zero e = refl
lock_back (suc zero) e = refl
lock_back (suc (suc zero)) e = refl
lock_back (suc (suc (suc n))) e = let h : suc (suc (suc n)) < 3 = ltb-true _ _ e in absurd (omega arith)

-- the bytes of a current sector, where there is none
record NoRun (b : List ℕ) : Type 0 where
  sector : get_or b 12 0 ≡ 0
  low : get_or b 13 0 ≡ 0
  high : get_or b 14 0 ≡ 0
  head : get_or b 15 0 ≡ 0
  after : get_or b 16 0 ≡ 0

no_run : (b : List ℕ) → no_run_stored b ≡ true → NoRun b
no_run b e =
    let t = all_five (eqb (get_or b 12 0) 0) (eqb (get_or b 13 0) 0) (eqb (get_or b 14 0) 0) (eqb (get_or b 15 0) 0) (eqb (get_or b 16 0) 0) e in
    record {
      sector = eqb-true _ _ t.0;
      low = eqb-true _ _ t.1.0;
      high = eqb-true _ _ t.1.1.0;
      head = eqb-true _ _ t.1.1.1.0;
      after = eqb-true _ _ t.1.1.1.1;
    }

place_back : (k : ℕ) (b : List ℕ) → no_run_stored b ≡ true → k ∷ 0 ∷ 0 ∷ 0 ∷ 0 ∷ 0 ∷ get_or b 17 0 ∷ [] ≡ k ∷ bytes_from b 12 6
place_back k b e =
    let n = no_run b e in
    rw (n.sector, n.low, n.high, n.head, n.after)

above : (k n : ℕ) → n < k → eqb k n ≡ false
above k n h = ne_eqb k n (λ (e : k ≡ n). omega arith)

no_kind : (k : ℕ) (b : List ℕ) → 8 < k → transfer_formed_as k b ≡ true → ⊥
no_kind k b h e =
    let p : transfer_formed_as k b ≡ (no_run_stored b && ltb k 9) =
    rw (above k 0 (omega arith), above k 1 (omega arith), above k 2 (omega arith)) in
    let q : k < 9 = ltb-true k 9 (and_true (no_run_stored b) (ltb k 9) (sym p ∙ e)).1 in
    omega arith

transfer_back : (k : ℕ) (b : List ℕ) → transfer_formed_as k b ≡ true → transfer_bytes (transfer_as k b) ≡ k ∷ bytes_from b 12 6
transfer_back zero b e =
    let a = and_true (no_run_stored b) (eqb (get_or b 17 0) 0) e in
    let w : get_or b 17 0 ≡ 0 = eqb-true _ _ a.1 in
    ap (λ (x : ℕ). 0 ∷ 0 ∷ 0 ∷ 0 ∷ 0 ∷ 0 ∷ x ∷ []) (sym w) ∙ place_back 0 b a.0
transfer_back (suc zero) b e = refl
transfer_back (suc (suc zero)) b e = refl
transfer_back (suc (suc (suc zero))) b e = place_back 3 b (and_true (no_run_stored b) (ltb 3 9) e).0
transfer_back (suc (suc (suc (suc zero)))) b e = place_back 4 b (and_true (no_run_stored b) (ltb 4 9) e).0
transfer_back (suc (suc (suc (suc (suc zero))))) b e = place_back 5 b (and_true (no_run_stored b) (ltb 5 9) e).0
transfer_back (suc (suc (suc (suc (suc (suc zero)))))) b e = place_back 6 b (and_true (no_run_stored b) (ltb 6 9) e).0
transfer_back (suc (suc (suc (suc (suc (suc (suc zero))))))) b e = place_back 7 b (and_true (no_run_stored b) (ltb 7 9) e).0
transfer_back (suc (suc (suc (suc (suc (suc (suc (suc zero)))))))) b e = place_back 8 b (and_true (no_run_stored b) (ltb 8 9) e).0
transfer_back (suc (suc (suc (suc (suc (suc (suc (suc (suc n))))))))) b e =
    let h : 8 < suc (suc (suc (suc (suc (suc (suc (suc (suc n)))))))) = omega arith in
    absurd (no_kind (suc (suc (suc (suc (suc (suc (suc (suc (suc n))))))))) b h e)

-- each mark is one, the transfer is one, and so is the lock state
pub record Formed (b : List ℕ) : Type 0 where
  pub long : length b ≡ 163
  pub held : mark_formed (get_or b 7 0) ≡ true
  pub masked : mark_formed (get_or b 8 0) ≡ true
  pub raised : mark_formed (get_or b 9 0) ≡ true
  pub failed : mark_formed (get_or b 10 0) ≡ true
  pub enabled : mark_formed (get_or b 27 0) ≡ true
  pub maximum : mark_formed (get_or b 28 0) ≡ true
  pub prepared : mark_formed (get_or b 30 0) ≡ true
  pub transfer : transfer_formed b ≡ true
  pub lock : ltb (get_or b 26 0) 3 ≡ true

pub formed_clauses : (b : List ℕ) → formed_of b ≡ true → Formed b
unfolding formed_of
formed_clauses b e =
    let a = both_true (eqb (length b) state_length) (marks_formed b && transfer_formed b && ltb (get_or b 26 0) 3) e in
    let c = all_three (marks_formed b) (transfer_formed b) (ltb (get_or b 26 0) 3) a.1 in
    let m = mark_formed in
    let d = all_three (m (get_or b 7 0) && m (get_or b 8 0) && m (get_or b 9 0) && m (get_or b 10 0) && m (get_or b 27 0)) (m (get_or b 28 0)) (m (get_or b 30 0)) c.0 in
    let g = all_five (m (get_or b 7 0)) (m (get_or b 8 0)) (m (get_or b 9 0)) (m (get_or b 10 0)) (m (get_or b 27 0)) d.0 in
    record {
      long = eqb-true _ _ a.0;
      held = g.0;
      masked = g.1.0;
      raised = g.1.1.0;
      failed = g.1.1.1.0;
      enabled = g.1.1.1.1;
      maximum = d.1.0;
      prepared = d.1.1;
      transfer = c.1.0;
      lock = c.1.1;
    }

hot_back : (b : List ℕ) → Formed b → hot_bytes (hot_stored b) ≡ take 18 b
unfolding transfer_stored transfer_formed
hot_back b f =
    let l : 0 + 18 ≤ length b = omega (arith, f.long) in
    rw (mark_back (get_or b 7 0) f.held, mark_back (get_or b 8 0) f.masked, mark_back (get_or b 9 0) f.raised, mark_back (get_or b 10 0) f.failed, transfer_back (get_or b 11 0) b f.transfer)
    (sym (part_bytes b 18 0 l))

pair_low : (x y : ℕ) → x < 256 → (x + 256 * y) % 256 ≡ x
pair_low x y h = omega arith

pair_high : (x y : ℕ) → x < 256 → (x + 256 * y) / 256 ≡ y
pair_high x y h = omega arith

numbers_back : (b : List ℕ) → Formed b → get_or b 18 0 < 256 → get_or b 22 0 < 256 → number_bytes (settled_stored b) ≡ take 13 (drop 18 b)
numbers_back b f p q =
    let l : 18 + 13 ≤ length b = omega (arith, f.long) in
    rw (pair_low (get_or b 18 0) (get_or b 19 0) p, pair_high (get_or b 18 0) (get_or b 19 0) p, pair_low (get_or b 22 0) (get_or b 23 0) q, pair_high (get_or b 22 0) (get_or b 23 0) q, lock_back (get_or b 26 0) f.lock, mark_back (get_or b 27 0) f.enabled, mark_back (get_or b 28 0) f.maximum, mark_back (get_or b 30 0) f.prepared)
    (sym (part_bytes b 13 18 l))

-- a part, and what comes behind it
split : (b : List ℕ) (n i : ℕ) → take n (drop i b) ++ drop (i + n) b ≡ drop i b
split b n i = ap (λ (l : List ℕ). take n (drop i b) ++ l) (sym (drop-drop n i b)) ∙ take-append-drop n (drop i b)

pub secrets_back : (b : List ℕ) → Formed b → secrets_bytes (secrets_stored b) ≡ drop 99 b
secrets_back b f =
    let l : length (drop 131 b) ≤ 32 = simp length-drop (omega (arith, f.long)) in
    ap (λ (l : List ℕ). take 32 (drop 99 b) ++ l) (take_all 32 (drop 131 b) l) ∙ split b 32 99

identity_back : (b : List ℕ) → identity_bytes (settled_stored b).identity ++ drop 99 b ≡ drop 31 b
identity_back b =
    append_assoc (take 20 (drop 31 b)) (take 8 (drop 51 b) ++ take 40 (drop 59 b)) (drop 99 b)
    ∙ ap (λ (l : List ℕ). take 20 (drop 31 b) ++ l)
    (append_assoc (take 8 (drop 51 b)) (take 40 (drop 59 b)) (drop 99 b)
    ∙ ap (λ (l : List ℕ). take 8 (drop 51 b) ++ l) (split b 40 59)
    ∙ split b 8 51)
    ∙ split b 20 31

-- all behind the hot part
pub rest_back : (b : List ℕ) → Formed b → get_or b 18 0 < 256 → get_or b 22 0 < 256 → rest_bytes (settled_stored b) (secrets_stored b) ≡ drop 18 b
rest_back b f p q =
    ap (λ (l : List ℕ). l ++ (identity_bytes (settled_stored b).identity ++ secrets_bytes (secrets_stored b))) (numbers_back b f p q)
    ∙ ap (λ (l : List ℕ). take 13 (drop 18 b) ++ (identity_bytes (settled_stored b).identity ++ l)) (secrets_back b f)
    ∙ ap (λ (l : List ℕ). take 13 (drop 18 b) ++ l) (identity_back b)
    ∙ split b 13 18

-- the state that is read is the state that would be written
pub state_back : (b x : List ℕ) → Formed b → get_or b 18 0 < 256 → get_or b 22 0 < 256 → state_of (device_stored b x) ≡ b
state_back b x f p q =
    ap (λ (l : List ℕ). l ++ rest_bytes (settled_stored b) (secrets_stored b)) (hot_back b f)
    ∙ ap (λ (l : List ℕ). take 18 b ++ l) (rest_back b f p q)
    ∙ take-append-drop 18 b
