-- A turn uses up no more bytes than are there, and what the loop gave it is what it leaves.
use Prim.Native.Nat.{ℕ, zero, suc, ◌+◌, ◌-◌, ◌/◌, ◌≤◌}
use mathlib.Core.Bool.{Bool, true, false}
use mathlib.Core.Path.{◌≡◌, refl, sym, ap, ◌∙◌}
use mathlib.Core.List.{List}
use native.Mathlib.Omega.{arith}
use lib.Dec.{ltb, eqb}
use lib.ListN.{length, get_or, take, drop, length-drop, length-append}
use lib.Seq.{sets, length-take-le}
use Rattle.std.proofs.Math.Nat.{min-le_right}
use Rattle.std.proofs.lemmas.List.{take_min}
use borrow.Author.Tests.{ltb-false}
use Rattle.std.specs.Prelude.{min, Result, Ok, Err}
use Rattle.base.specs.Choice.{pick}
use Rattle.base.proofs.Tests.{pick_both, pick_each}
use Rattle.face.specs.declared.Answer.TheVariants.{OutOfShape, WrongLength}
use Rattle.device.specs.Host.{shaped_of, memory_length, step_of}
use Rattle.device.specs.declared.Device.{Device}
use Rattle.records.specs.Records.{next_of}
use Rattle.records.specs.declared.Record.{Record}
use Rattle.records.specs.declared.NoRecord.{NoRecord}
use Rattle.records.specs.declared.NoRecord.TheVariants.{Nothing, Part, Malformed}
use Rattle.records.proofs.Sizes.{record_within}
use Rattle.playback.specs.Replay.{Play, play_as, play_of}
use Rattle.player.specs.Parts.{Gives}
use Rattle.player.specs.declared.Came.{Came}
use Rattle.playback.specs.declared.Stage.{Stage}
use Rattle.playback.specs.declared.Stage.TheVariants.{Opening, Replaying, Over}
use Rattle.recording.specs.Turns.{open_of, turn_as, Turned, taken_of, turned_away, turn_of, Leaves}
use Rattle.recording.specs.declared.Stream.{Stream}
use Rattle.recording.specs.declared.Turn.{Turn}

-- ---- bytes used up

-- behind the first n bytes, no more are used up than are there
behind : (n t : ℕ) (l : List ℕ) → n ≤ length l → t ≤ length (drop n l) → n + t ≤ length l
behind n t l h k = let e : length (drop n l) ≡ length l - n = length-drop n l in omega arith

pub play_taken : (last : Bool) (n : ℕ) (d : Device) (m l : List ℕ) → (play_of last n d m l).taken ≤ length l
unfolding play_of play_as
play_taken last zero d m l = omega arith
play_taken last (suc n) d m l = go (next_of l) refl (λ d' m' l'. play_taken last n d' m' l')
  where
    go : (x : Result Record NoRecord) → next_of l ≡ x → ((d' : Device) (m' l' : List ℕ) → (play_of last n d' m' l').taken ≤ length l')
        → (play_as last d m l (play_of last n) x).taken ≤ length l
    go (Ok r) e ih = behind r.size _ l (record_within l r e).1 (ih (step_of d m r.action).outcome.device (step_of d m r.action).sectors (drop r.size l))
    go (Err Nothing) e ih = omega arith
    go (Err Part) e ih = pick_both (λ (p : Play). p.taken ≤ length l) last _ _ (omega arith) (omega arith)
    go (Err Malformed) e ih = omega arith

pub turn_taken : (stage : Stage) (last : Bool) (room : ℕ) (d : Device) (m l : List ℕ) → (turn_as stage last room d m l).taken ≤ length l
unfolding open_of turn_as
turn_taken Opening last room d m l =
    pick_both P (ltb room 4) _ _ (omega arith)
    (pick_each P (ltb (length l) 1) _ _ (λ h. pick_both P last _ _ (omega arith) (omega arith))
    (λ h. pick_both P (eqb (get_or l 0 0) 1) _ _ (behind 1 _ l (ltb-false _ _ h) (play_taken last ((room - 1) / 5) d m (drop 1 l))) (omega arith)))
  where
    P : Play → Type 0
    P p = p.taken ≤ length l
turn_taken Replaying last room d m l = play_taken last (room / 5) d m l
turn_taken Over last room d m l = omega arith

-- ---- the bytes held

pub came_end : (s : Stream) (last : Bool) (m window : List ℕ) (held end : ℕ) (out₀ out : List ℕ) (r : Came) (m' : List ℕ)
    → end ≡ min held (length window) → Gives (turn_as s.stage last (length out₀) s.device m (take end window)) r m' out₀ out → r.taken ≤ end
came_end s last m window held end out₀ out r m' i g =
    let w : min held (length window) ≤ length window = min-le_right held (length window) in
    let e : r.taken ≡ (turn_as s.stage last (length out₀) s.device m (take end window)).taken = ap (λ (x : Came). x.taken) g.result in
    let t : (turn_as s.stage last (length out₀) s.device m (take end window)).taken ≤ length (take end window) = turn_taken s.stage last (length out₀) s.device m (take end window) in
    let l : length (take end window) ≡ end = length-take-le end window (omega arith) in
    omega arith

-- ---- what a turn leaves

pub leaves_taken : (s : Stream) (last : Bool) (m window : List ℕ) (held end : ℕ) (out₀ out : List ℕ) (r : Came) (m' window' : List ℕ)
    → end ≡ min held (length window) → Gives (turn_as s.stage last (length out₀) s.device m (take end window)) r m' out₀ out
    → window' ≡ sets window 0 (drop r.taken (take end window))
    → Leaves (taken_of window (take held window) (turn_as s.stage last (length out₀) s.device m (take held window)))
    (record { number = 0; stream = record { device = r.device; stage = r.stage }; held = end - r.taken; made = r.made }) m' window' out₀ out
leaves_taken s last m window held end out₀ out r m' window' i g h =
    let w : min held (length window) ≤ length window = min-le_right held (length window) in
    let e : take end window ≡ take held window = ap (λ (n : ℕ). take n window) i ∙ take_min held window in
    go (take held window) (sym (ap length e) ∙ length-take-le end window (omega arith)) (rw e at g) (h ∙ ap (λ (l : List ℕ). sets window 0 (drop r.taken l)) e)
  where
    go : (l : List ℕ) → length l ≡ end → Gives (turn_as s.stage last (length out₀) s.device m l) r m' out₀ out
        → window' ≡ sets window 0 (drop r.taken l)
        → Leaves (taken_of window l (turn_as s.stage last (length out₀) s.device m l))
        (record { number = 0; stream = record { device = r.device; stage = r.stage }; held = end - r.taken; made = r.made }) m' window' out₀ out
    go l k g h =
        let p : Play = turn_as s.stage last (length out₀) s.device m l in
        record {
          result =
              ap (λ (x : Came). record { number = 0; stream = record { device = x.device; stage = x.stage }; held = end - x.taken; made = x.made }) g.result
              ∙ ap (λ (n : ℕ). record { number = 0; stream = record { device = p.device; stage = p.stage }; held = n - p.taken; made = length p.reply }) (sym k);
          sectors = g.sectors;
          window = h ∙ ap (λ (x : Came). sets window 0 (drop x.taken l)) g.result;
          reply = g.reply;
        }

-- ---- the reply lies within the room

-- the turn counts the bytes that it wrote
record Counted (t : Turned) : Type 0 where
  is : t.turn.made ≡ length t.reply

turn_counted : (s : Stream) (m window : List ℕ) (held : ℕ) (last : Bool) (room : ℕ) → Counted (turn_of s m window held last room)
unfolding turn_of
turn_counted s m window held last room = go (shaped_of s.device) (eqb (length m) (memory_length s.device))
  where
    go : (a b : Bool)
        → Counted (pick a (pick b (taken_of window (take held window) (turn_as s.stage last room s.device m (take held window))) (turned_away s m window held WrongLength)) (turned_away s m window held OutOfShape))
    go true true = record { is = refl }
    go true false = record { is = refl }
    go false b = record { is = refl }

pub made_within : (s : Stream) (m window : List ℕ) (held : ℕ) (last : Bool) (room : ℕ) (r : Turn) (m' window' out₀ out : List ℕ)
    → Leaves (turn_of s m window held last room) r m' window' out₀ out → length out ≡ length out₀ → r.made ≤ length out
made_within s m window held last room r m' window' out₀ out g e =
    let t : Turned = turn_of s m window held last room in
    let made : r.made ≡ length t.reply = ap (λ (x : Turn). x.made) g.result ∙ (turn_counted s m window held last room).is in
    let long : length out ≡ length t.reply + (length out₀ - length t.reply) =
    ap length g.reply ∙ length-append t.reply (drop (length t.reply) out₀) ∙ ap (λ (n : ℕ). length t.reply + n) (length-drop (length t.reply) out₀) in
    omega arith
