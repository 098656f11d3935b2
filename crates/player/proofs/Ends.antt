-- The loop's start, its turn by the long way, and its ends.
use Prim.Native.Nat.{ℕ, ◌+◌, ◌-◌, ◌*◌, ◌/◌, ◌≤◌, ◌<◌}
use mathlib.Core.Path.{◌≡◌, refl, sym, ap, ◌∙◌}
use mathlib.Core.Bool.{Bool, true, false}
use mathlib.Core.List.{List, [], ◌++◌, append-nil}
use native.Mathlib.Nat.{add-zero}
use native.Mathlib.Omega.{arith}
use lib.ListN.{length, take, drop, length-append, take-append-drop}
use lib.Seq.{sets, length-take-le}
use Rattle.std.specs.Prelude.{Ok, Err}
use Rattle.device.specs.Alone.{alone_of}
use Rattle.device.specs.Host.{Ready}
use Rattle.device.specs.declared.Device.{Device}
use Rattle.device.specs.declared.Outcome.{Outcome}
use Rattle.records.specs.Records.{next_of}
use Rattle.records.specs.Replies.{reply_bytes, fault_bytes}
use Rattle.records.specs.declared.Record.{Record}
use Rattle.records.specs.declared.NoRecord.TheVariants.{Nothing, Part, Malformed}
use Rattle.records.proofs.Stores.{write_behind}
use Rattle.loops.specs.Ways.{Stands, way_at, swift_of}
use Rattle.loops.specs.declared.Stand.{Stand}
use Rattle.loops.proofs.Onward.{swift_fewer, swift_stands}
use Rattle.playback.specs.Replay.{Play, rests, onto, cut_stage, cut_short, play_as, play_of}
use Rattle.player.specs.Parts.{part_of, came, came_of, stretch_way, course_of, Gives, cut_made, cut_reply}
use Rattle.playback.specs.Loops.{Playing}
use Rattle.playback.specs.declared.Stage.{Stage}
use Rattle.playback.specs.declared.Stage.TheVariants.{Replaying, Over}
use Rattle.playback.proofs.Playing.{play_next, playing_more, playing_left}
use Rattle.playback.proofs.Carrying.{swift_plays}
use Rattle.player.specs.declared.Course.{Course}

-- ---- the definition, where no record is taken

pub play_full : (last : Bool) (n : ℕ) (d : Device) (m l : List ℕ) → n ≤ 0 → play_of last n d m l ≡ rests d m [] Replaying
unfolding play_of
play_full last n d m l h = let g : n ≡ 0 = omega arith in ap (λ (k : ℕ). play_of last k d m l) g

pub play_nothing : (last : Bool) (n : ℕ) (d : Device) (m l : List ℕ) → next_of l ≡ Err Nothing → play_of last (n + 1) d m l ≡ rests d m [] (cut_stage last)
unfolding play_as
play_nothing last n d m l e = play_next last n d m l (Err Nothing) e

play_part : (last : Bool) (n : ℕ) (d : Device) (m l : List ℕ) → next_of l ≡ Err Part → play_of last (n + 1) d m l ≡ cut_short last d m
unfolding play_as
play_part last n d m l e = play_next last n d m l (Err Part) e

play_malformed : (last : Bool) (n : ℕ) (d : Device) (m l : List ℕ) → next_of l ≡ Err Malformed → play_of last (n + 1) d m l ≡ cut_short true d m
unfolding play_as
play_malformed last n d m l e = play_next last n d m l (Err Malformed) e

-- ---- the loop

pub playing_none : (last : Bool) (d : Device) (m l out : List ℕ) (at put : ℕ) → Ready d m → at ≤ length l → put ≤ length out
    → Playing (part_of last d m l at out put) last l out (length m) ((length out - put) / 5) d m out at put
playing_none last d m l out at put r h g =
    record {
      wrote = take put out;
      is = sym (take-append-drop put out);
      long = length-take-le put out g;
      room = omega arith;
      all = refl;
      below = h;
      ready = r;
      same = refl;
      plays = refl;
    }

-- a record that went the long way
pub playing_after : {w : Play} {last : Bool} {l out₀ : List ℕ} {k n : ℕ} {d : Device} {m out : List ℕ} {at put : ℕ}
    → Playing w last l out₀ k (n + 1) d m out at put → (r : Record) → next_of (drop at l) ≡ Ok r
    → (o : Outcome) (m' : List ℕ) → o ≡ (alone_of d m r.action).outcome → m' ≡ (alone_of d m r.action).sectors → length m' ≡ length m
    → (out' : List ℕ) → out' ≡ sets out put (reply_bytes o.number o.value)
    → Playing w last l out₀ k n o.device m' out' (at + r.size) (put + 5)
playing_after {d = d} {m = m} p r x o m' f g q out' e =
    playing_more p r x (record { outcome = o; sectors = m' })
    (ap (λ (i : Outcome). record { outcome = i; sectors = (alone_of d m r.action).sectors }) (sym f) ∙ ap (λ (i : List ℕ). record { outcome = o; sectors = i }) (sym g))
    q out' e

-- records that the hot part and the buffer settle
pub playing_stretch : {w : Play} {last : Bool} {l out₀ : List ℕ} {k n : ℕ} {d : Device} {m out : List ℕ} {at put : ℕ}
    → Playing w last l out₀ k n d m out at put → 0 < n
    → {r : Course} {out' : List ℕ} → (r ≡ course_of d (stretch_way d at put (n - 1) l out)) × (out' ≡ (stretch_way d at put (n - 1) l out).out)
    → Playing w last l out₀ k (r.left + 1) r.device m out' r.at r.put
playing_stretch {n = n} {d = d} p h e =
    rw (e.0, e.1) (swift_plays (n - 1) d _ (omega arith) (playing_left p ((n - 1) + 1) (omega arith)))

-- where they end, the inner loops stand in the recording and in the reply, and no more replies fit than before
pub stretch_stands : (l out out' b b' : List ℕ) (s far : Stand) → Stands l out s → way_at far b' out' ≡ swift_of s.left l (way_at s b out) → Stands l out' far
stretch_stands l out out' b b' s far h e = rw (← e) at (swift_stands s.left l (way_at s b out) (omega arith) h)

pub stretch_fewer : (l out out' b b' : List ℕ) (s far : Stand) → way_at far b' out' ≡ swift_of s.left l (way_at s b out) → far.left ≤ s.left
stretch_fewer l out out' b b' s far e = rw (← e) at (swift_fewer s.left l (way_at s b out))

-- ---- its ends

-- the loop stops with nothing more to write
pub playing_rests : {w : Play} {last : Bool} {l out₀ : List ℕ} {k n : ℕ} {d : Device} {m out : List ℕ} {at put : ℕ}
    → Playing w last l out₀ k n d m out at put → (stage : Stage) → play_of last n d m (drop at l) ≡ rests d m [] stage
    → Gives w (came d stage at put) m out₀ out
playing_rests {w} {last} {l} {out₀} {k} {n} {d} {m} {out} {at} {put} p stage e =
    let q : w ≡ record { device = d; sectors = m; taken = at; reply = p.wrote; stage = stage } =
    p.plays ∙ ap (onto at p.wrote) e
    ∙ ap (λ (i : ℕ). record { device = d; sectors = m; taken = i; reply = p.wrote ++ []; stage = stage }) (add-zero at)
    ∙ ap (λ (i : List ℕ). record { device = d; sectors = m; taken = at; reply = i; stage = stage }) (append-nil p.wrote) in
    record {
      result = ap (came d stage at) (sym p.long) ∙ sym (ap came_of q);
      sectors = ap (λ (x : Play). x.sectors) (sym q);
      reply = p.is ∙ ap (λ (i : ℕ). p.wrote ++ drop i out₀) (sym p.long) ∙ ap (λ (x : Play). x.reply ++ drop (length x.reply) out₀) (sym q);
      ready = p.ready;
    }

-- the loop stops at a fault
playing_fault : {w : Play} {last : Bool} {l out₀ : List ℕ} {k : ℕ} (n : ℕ) {d : Device} {m out : List ℕ} {at put : ℕ}
    → Playing w last l out₀ k (n + 1) d m out at put → play_of last (n + 1) d m (drop at l) ≡ rests d m fault_bytes Over
    → (out' : List ℕ) → out' ≡ sets out put fault_bytes → Gives w (came d Over at (put + 3)) m out₀ out'
playing_fault {w} {last} {l} {out₀} {k} n {d} {m} {out} {at} {put} p e out' o =
    let x : put + 5 * (n + 1) ≤ length out₀ = p.room in
    let z : length (p.wrote ++ fault_bytes) ≡ put + 3 = length-append p.wrote fault_bytes ∙ ap (λ (i : ℕ). i + 3) p.long in
    let q : w ≡ record { device = d; sectors = m; taken = at; reply = p.wrote ++ fault_bytes; stage = Over } =
    p.plays ∙ ap (onto at p.wrote) e
    ∙ ap (λ (i : ℕ). record { device = d; sectors = m; taken = i; reply = p.wrote ++ fault_bytes; stage = Over }) (add-zero at) in
    record {
      result = ap (came d Over at) (sym z) ∙ sym (ap came_of q);
      sectors = ap (λ (v : Play). v.sectors) (sym q);
      reply =
          o ∙ write_behind p.wrote out out₀ fault_bytes put p.is p.long (omega arith)
          ∙ ap (λ (i : ℕ). (p.wrote ++ fault_bytes) ++ drop i out₀) (sym z)
          ∙ ap (λ (v : Play). v.reply ++ drop (length v.reply) out₀) (sym q);
      ready = p.ready;
    }

-- no whole record is there: the loop stops, at a fault where none can come
playing_cut : {w : Play} {last : Bool} {l out₀ : List ℕ} {k : ℕ} (n : ℕ) {d : Device} {m out : List ℕ} {at put : ℕ}
    → Playing w last l out₀ k (n + 1) d m out at put → (b : Bool) → play_of last (n + 1) d m (drop at l) ≡ cut_short b d m
    → (out' : List ℕ) → out' ≡ cut_reply b out put → Gives w (came d (cut_stage b) at (cut_made b put)) m out₀ out'
unfolding cut_reply cut_made
playing_cut n p true e out' o = playing_fault n p e out' o
playing_cut {out₀ = out₀} n {m = m} p false e out' o = go (playing_rests p Replaying e) o
  where
    go : {w : Play} {r : _} {out : List ℕ} → Gives w r m out₀ out → out' ≡ out → Gives w r m out₀ out'
    go g i = rw i g

pub playing_part : {w : Play} {last : Bool} {l out₀ : List ℕ} {k : ℕ} (n : ℕ) {d : Device} {m out : List ℕ} {at put : ℕ}
    → Playing w last l out₀ k (n + 1) d m out at put → next_of (drop at l) ≡ Err Part
    → (out' : List ℕ) → out' ≡ cut_reply last out put → Gives w (came d (cut_stage last) at (cut_made last put)) m out₀ out'
playing_part {last = last} n p e out' o = playing_cut n p last (play_part _ _ _ _ _ e) out' o

pub playing_malformed : {w : Play} {last : Bool} {l out₀ : List ℕ} {k : ℕ} (n : ℕ) {d : Device} {m out : List ℕ} {at put : ℕ}
    → Playing w last l out₀ k (n + 1) d m out at put → next_of (drop at l) ≡ Err Malformed
    → (out' : List ℕ) → out' ≡ cut_reply true out put → Gives w (came d (cut_stage true) at (cut_made true put)) m out₀ out'
playing_malformed n p e out' o = playing_cut n p true (play_malformed _ _ _ _ _ e) out' o
