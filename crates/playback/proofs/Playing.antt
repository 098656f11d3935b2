-- The loop over the records: what it has replied so far, and what is still to come, is the whole part's replay; each record takes it one step on.
use Prim.Native.Nat.{ℕ, suc, ◌+◌, ◌-◌, ◌*◌, ◌≤◌}
use mathlib.Core.Path.{◌≡◌, sym, ap, ◌∙◌}
use mathlib.Core.Bool.{Bool}
use mathlib.Core.List.{List, ◌++◌, append_assoc}
use native.Mathlib.Nat.{add_assoc}
use native.Mathlib.Omega.{arith}
use lib.ListN.{length, drop, length-drop, length-append}
use lib.Seq.{sets, drop-drop}
use Rattle.std.specs.Prelude.{Result, Ok}
use Rattle.device.specs.Alone.{Step, alone_of}
use Rattle.device.specs.Host.{step_of}
use Rattle.device.specs.declared.Device.{Device}
use Rattle.laws.proofs.Steps.{ready_step, ready_after}
use Rattle.records.specs.Records.{next_of}
use Rattle.records.specs.declared.Record.{Record}
use Rattle.records.specs.declared.NoRecord.{NoRecord}
use Rattle.records.proofs.Stores.{write_behind}
use Rattle.records.proofs.Rest.{rest_within}
use Rattle.playback.specs.Replay.{Play, onto, answered, play_as, play_of}
use Rattle.playback.specs.Loops.{Playing}

-- ---- one record of the definition

pub onto_onto : (k : ℕ) (w : List ℕ) (j : ℕ) (v : List ℕ) (p : Play) → onto k w (onto j v p) ≡ onto (k + j) (w ++ v) p
onto_onto k w j v p =
    ap (λ (n : ℕ). record { device = p.device; sectors = p.sectors; taken = n; reply = w ++ (v ++ p.reply); stage = p.stage }) (sym (add_assoc k j p.taken))
    ∙ ap (λ (l : List ℕ). record { device = p.device; sectors = p.sectors; taken = (k + j) + p.taken; reply = l; stage = p.stage }) (sym (append_assoc w v p.reply))

pub play_next : (last : Bool) (n : ℕ) (d : Device) (m l : List ℕ) (x : Result Record NoRecord) → next_of l ≡ x → play_of last (n + 1) d m l ≡ play_as last d m l (play_of last n) x
unfolding play_of
play_next last n d m l x e =
    let g : n + 1 ≡ suc n = omega arith in
    ap (λ (k : ℕ). play_of last k d m l) g ∙ ap (play_as last d m l (play_of last n)) e

play_record : (last : Bool) (n : ℕ) (d : Device) (m l : List ℕ) (r : Record) (e : Step) → next_of l ≡ Ok r → step_of d m r.action ≡ e
    → play_of last (n + 1) d m l ≡ onto r.size (answered e) (play_of last n e.outcome.device e.sectors (drop r.size l))
unfolding play_as
play_record last n d m l r e x g =
    play_next last n d m l (Ok r) x
    ∙ ap (λ (s : Step). onto r.size (answered s) (play_of last n s.outcome.device s.sectors (drop r.size l))) g

-- ---- the loop

pub playing_more : {w : Play} {last : Bool} {l out₀ : List ℕ} {k n : ℕ} {d : Device} {m out : List ℕ} {at put : ℕ}
    → Playing w last l out₀ k (n + 1) d m out at put → (r : Record) → next_of (drop at l) ≡ Ok r
    → (e : Step) → alone_of d m r.action ≡ e → length e.sectors ≡ length m → (out' : List ℕ) → out' ≡ sets out put (answered e)
    → Playing w last l out₀ k n e.outcome.device e.sectors out' (at + r.size) (put + 5)
playing_more {w} {last} {l} {out₀} {k} {n} {d} {m} {out} {at} {put} p r x e g q out' o =
    let room : put + 5 * (n + 1) ≤ length out₀ = p.room in
    let y : out' ≡ (p.wrote ++ answered e) ++ drop (put + 5) out₀ = o ∙ write_behind p.wrote out out₀ (answered e) put p.is p.long (omega arith) in
    let z : length (p.wrote ++ answered e) ≡ put + 5 = length-append p.wrote (answered e) ∙ ap (λ (i : ℕ). i + 5) p.long in
    let b : at ≤ length l = p.below in
    let v : r.size ≤ length l - at = rest_within l at r x in
    record {
      wrote = p.wrote ++ answered e;
      is = y;
      long = z;
      room = omega arith;
      all = ap length y ∙ length-append (p.wrote ++ answered e) (drop (put + 5) out₀) ∙ simp (z, length-drop) (omega arith);
      below = omega arith;
      ready = ready_after d m r.action e p.ready g q;
      same = q ∙ p.same;
      plays =
          p.plays
          ∙ ap (onto at p.wrote) (play_record last n d m (drop at l) r e x (ready_step d m r.action p.ready ∙ g))
          ∙ onto_onto at p.wrote r.size (answered e) _
          ∙ ap (λ (i : List ℕ). onto (at + r.size) (p.wrote ++ answered e) (play_of last n e.outcome.device e.sectors i)) (drop-drop r.size at l);
    }

-- the same number, said otherwise
pub playing_left : {w : Play} {last : Bool} {l out₀ : List ℕ} {k n : ℕ} {d : Device} {m out : List ℕ} {at put : ℕ}
    → Playing w last l out₀ k n d m out at put → (n' : ℕ) → n' ≡ n → Playing w last l out₀ k n' d m out at put
playing_left p n' e = rw e p
