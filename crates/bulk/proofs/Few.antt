-- No more words pass in a call than a transfer has, which are at most 65,536: their number fits the reply.
use Prim.Native.Nat.{ℕ, zero, suc, ◌≤◌, ◌<◌}
use mathlib.Core.List.{List, [], ◌∷◌}
use native.Mathlib.Omega.{arith}
use borrow.Author.Tests.{eqb-true}
use lib.Dec.{eqb}
use lib.ListN.{length, get_or}
use Rattle.base.proofs.Tests.{pick_both, pick_each}
use Rattle.face.specs.declared.Action.TheVariants.{ReadWord, WriteWord}
use Rattle.fastpath.specs.Dev.{ignored_of}
use Rattle.device.specs.Alone.{alone_of}
use Rattle.device.specs.declared.Device.{Device}
use Rattle.laws.proofs.Endings.{words_left, Bytes, most_words, act_fewer}
use Rattle.laws.proofs.Endings.Word.{Read, Written}
use Rattle.layout.specs.Stored.{transfer_stored}
use Rattle.lent.proofs.Lending.{number_done}
use Rattle.words.specs.Words.{Handed, read_words_of, Taken, write_words_of}

handed_left : (n : ℕ) (d : Device) (m : List ℕ) → Bytes d.face.hot.transfer → length (read_words_of alone_of n d m).words ≤ words_left d.face.hot.transfer
unfolding read_words_of alone_of ignored_of
handed_left zero d m b = omega arith
handed_left (suc n) d m b =
    pick_each (λ (h : Handed). length h.words ≤ words_left d.face.hot.transfer) (eqb (alone_of d m ReadWord).outcome.number 0) _ _
    (λ e. let k = act_fewer d.face d.secrets m Read b (number_done _ (eqb-true _ _ e)) in
    let r = handed_left n (alone_of d m ReadWord).outcome.device (alone_of d m ReadWord).sectors k.bytes in
    omega (arith, k.less, r))
    (λ e. omega arith)

taken_left : (ws : List ℕ) (d : Device) (m : List ℕ) → Bytes d.face.hot.transfer → (write_words_of alone_of ws d m).count ≤ words_left d.face.hot.transfer
unfolding write_words_of alone_of ignored_of
taken_left [] d m b = omega arith
taken_left (w ∷ ws) d m b =
    pick_each (λ (t : Taken). t.count ≤ words_left d.face.hot.transfer) (eqb (alone_of d m (WriteWord w)).outcome.number 0) _ _
    (λ e. let k = act_fewer d.face d.secrets m (Written w) b (number_done _ (eqb-true _ _ e)) in
    let r = taken_left ws (alone_of d m (WriteWord w)).outcome.device (alone_of d m (WriteWord w)).sectors k.bytes in
    omega (arith, k.less, r))
    (λ e. omega arith)

-- the numbers of a transfer that bytes hold are bytes
pub bytes_stored : (b : List ℕ) → get_or b 16 0 < 256 → get_or b 17 0 < 256 → Bytes (transfer_stored b)
unfolding transfer_stored
bytes_stored b p q =
    pick_both Bytes (eqb (get_or b 11 0) 0) _ _ tt
    (pick_both Bytes (eqb (get_or b 11 0) 1) _ _ (p, q)
    (pick_both Bytes (eqb (get_or b 11 0) 2) _ _ (p, q)
    (pick_both Bytes (eqb (get_or b 11 0) 3) _ _ q
    (pick_both Bytes (eqb (get_or b 11 0) 4) _ _ q
    (pick_both Bytes (eqb (get_or b 11 0) 5) _ _ q
    (pick_both Bytes (eqb (get_or b 11 0) 6) _ _ q
    (pick_both Bytes (eqb (get_or b 11 0) 7) _ _ q q)))))))

pub bytes_known : (b : List ℕ) → ((i : ℕ) → get_or b i 0 < 256) → Bytes (transfer_stored b)
bytes_known b fits = bytes_stored b (fits 16) (fits 17)

pub few_handed : (n : ℕ) (d : Device) (m : List ℕ) → Bytes d.face.hot.transfer → length (read_words_of alone_of n d m).words ≤ 65536
few_handed n d m b = let l = handed_left n d m b in let k = most_words d.face.hot.transfer b in omega (arith, l, k)

pub few_taken : (ws : List ℕ) (d : Device) (m : List ℕ) → Bytes d.face.hot.transfer → (write_words_of alone_of ws d m).count ≤ 65536
few_taken ws d m b = let l = taken_left ws d m b in let k = most_words d.face.hot.transfer b in omega (arith, l, k)
