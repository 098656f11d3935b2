-- What the bulk definitions mean for a host: a session of single words, all of them done; and the next one would not be.
use mathlib.Core.Path.{◌≡◌, refl, ap, subst}
use mathlib.Core.List.{List, [], ◌∷◌, map}
use Prim.Native.Nat.{ℕ, zero, suc, ◌+◌, ◌≤◌, ◌<◌}
use native.Mathlib.Omega.{arith}
use lib.Dec.{eqb}
use lib.ListN.{length, get_or, take, replicate}
use borrow.Author.Tests.{eqb-true, eqb-false}
use Rattle.base.proofs.Tests.{pick_each}
use Rattle.face.specs.declared.Answer.TheVariants.{Done}
use Rattle.face.specs.declared.Action.TheVariants.{ReadWord, WriteWord}
use Rattle.device.specs.declared.Device.{Device}
use Rattle.laws.specs.Sessions.{Rules, Given, given, session_of, values_of}
use Rattle.words.specs.Words.{Handed, read_words_of, Taken, taken_behind, write_words_of}

-- ---- reads

-- as many reads, one after the other: each is done, and shows its word; a further one that was wanted is not done
pub record ReadsAs (r : Rules) (n : ℕ) (d : Device) (m : List ℕ) (h : Handed) : Type 0 where
  pub session : session_of r d m (replicate (length h.words) ReadWord) ≡ record { answers = map (given Done) h.words; device = h.device; sectors = h.sectors }
  pub fewer : length h.words ≤ n
  pub next : length h.words < n → (r h.device h.sectors ReadWord).outcome.number ≡ 0 → ⊥

pub reads_session : (r : Rules) (n : ℕ) (d : Device) (m : List ℕ) → ReadsAs r n d m (read_words_of r n d m)
unfolding read_words_of session_of
reads_session r zero d m = record { session = refl; fewer = omega arith; next = λ l e. omega arith }
reads_session r (suc n) d m = go (reads_session r n (r d m ReadWord).outcome.device (r d m ReadWord).sectors)
  where
    go : ReadsAs r n (r d m ReadWord).outcome.device (r d m ReadWord).sectors (read_words_of r n (r d m ReadWord).outcome.device (r d m ReadWord).sectors)
        → ReadsAs r (suc n) d m (read_words_of r (suc n) d m)
    go rest =
        pick_each (ReadsAs r (suc n) d m) (eqb (r d m ReadWord).outcome.number 0) _ _
        (λ e.
        let number : (r d m ReadWord).outcome.number ≡ 0 = eqb-true _ _ e in
        record {
          session = λ i.
              record {
                answers = record { number = number i; value = (r d m ReadWord).outcome.value } ∷ (rest.session i).answers;
                device = (rest.session i).device;
                sectors = (rest.session i).sectors;
              };
          fewer = let l = rest.fewer in omega arith;
          next = λ l f. rest.next (omega arith) f;
        })
        (λ e. record { session = refl; fewer = omega arith; next = λ l f. eqb-false _ _ e f })

-- the values of those answers are the words
pub done_values : (ws : List ℕ) → values_of (map (given Done) ws) ≡ ws
done_values [] = refl
done_values (w ∷ ws) = ap (λ (l : List ℕ). w ∷ l) (done_values ws)

-- ---- writes

-- the words that passed, written one after the other: each is done; the next one is not
pub record WritesAs (r : Rules) (ws : List ℕ) (d : Device) (m : List ℕ) (t : Taken) : Type 0 where
  pub numbers : map (λ (g : Given). g.number) (session_of r d m (map WriteWord (take t.count ws))).answers ≡ replicate t.count 0
  pub device : (session_of r d m (map WriteWord (take t.count ws))).device ≡ t.device
  pub sectors : (session_of r d m (map WriteWord (take t.count ws))).sectors ≡ t.sectors
  pub fewer : t.count ≤ length ws
  pub next : t.count < length ws → (r t.device t.sectors (WriteWord (get_or ws t.count 0))).outcome.number ≡ 0 → ⊥

-- a word that is done, before others
writes_more : (r : Rules) (w : ℕ) (ws : List ℕ) (d : Device) (m : List ℕ) (t : Taken) → (r d m (WriteWord w)).outcome.number ≡ 0
    → WritesAs r ws (r d m (WriteWord w)).outcome.device (r d m (WriteWord w)).sectors t
    → WritesAs r (w ∷ ws) d m (record { count = suc t.count; device = t.device; sectors = t.sectors })
unfolding session_of
writes_more r w ws d m t number rest =
    record {
      numbers = λ i. number i ∷ rest.numbers i;
      device = rest.device;
      sectors = rest.sectors;
      fewer = let l = rest.fewer in omega arith;
      next = λ l f. rest.next (omega arith) f;
    }

pub writes_session : (r : Rules) (ws : List ℕ) (d : Device) (m : List ℕ) → WritesAs r ws d m (write_words_of r ws d m)
unfolding write_words_of session_of
writes_session r [] d m = record { numbers = refl; device = refl; sectors = refl; fewer = omega arith; next = λ l e. omega arith }
writes_session r (w ∷ ws) d m = go (writes_session r ws (r d m (WriteWord w)).outcome.device (r d m (WriteWord w)).sectors)
  where
    go : WritesAs r ws (r d m (WriteWord w)).outcome.device (r d m (WriteWord w)).sectors (write_words_of r ws (r d m (WriteWord w)).outcome.device (r d m (WriteWord w)).sectors)
        → WritesAs r (w ∷ ws) d m (write_words_of r (w ∷ ws) d m)
    go rest =
        pick_each (WritesAs r (w ∷ ws) d m) (eqb (r d m (WriteWord w)).outcome.number 0) _ _
        (λ e. as_one (writes_more r w ws d m (write_words_of r ws (r d m (WriteWord w)).outcome.device (r d m (WriteWord w)).sectors) (eqb-true _ _ e) rest))
        (λ e. record { numbers = refl; device = refl; sectors = refl; fewer = omega arith; next = λ l f. eqb-false _ _ e f })
      where
        as_one : {t : Taken} → WritesAs r (w ∷ ws) d m (record { count = suc t.count; device = t.device; sectors = t.sectors }) → WritesAs r (w ∷ ws) d m (taken_behind 1 t)
        as_one {t} k =
            let e : suc t.count ≡ 1 + t.count = omega arith in
            subst (λ (n : ℕ). WritesAs r (w ∷ ws) d m (record { count = n; device = t.device; sectors = t.sectors })) e k
