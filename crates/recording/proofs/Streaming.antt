-- Whatever pieces a recording comes in, and whatever room there is for the reply: the turns' replies one after the other are the reply to the whole.
use Prim.Native.Nat.{ℕ, zero, suc, ◌+◌, ◌-◌, ◌*◌, ◌/◌, ◌≤◌, ◌<◌}
use mathlib.Core.Bool.{Bool, true, false}
use mathlib.Core.Path.{◌≡◌, refl, sym, ap, ◌∙◌}
use mathlib.Core.List.{List, [], ◌∷◌, ◌++◌, append_assoc, append-nil}
use native.Mathlib.Omega.{arith}
use lib.Dec.{ltb, eqb}
use lib.ListN.{length, drop, length-drop}
use lib.Seq.{drop-append-le, drop-drop}
use borrow.Author.Tests.{le-ltb}
use Rattle.std.specs.Prelude.{Result, Ok, Err}
use Rattle.base.specs.Choice.{pick}
use Rattle.base.proofs.Tests.{false≢true}
use Rattle.block.specs.Sectors.{zeroed}
use Rattle.device.specs.Alone.{Step}
use Rattle.device.specs.Host.{step_of}
use Rattle.device.specs.declared.Device.{Device}
use Rattle.records.specs.Records.{next_of}
use Rattle.records.specs.Replies.{fault_bytes}
use Rattle.records.specs.declared.Record.{Record}
use Rattle.records.specs.declared.NoRecord.{NoRecord}
use Rattle.records.specs.declared.NoRecord.TheVariants.{Nothing, Part, Malformed}
use Rattle.records.proofs.Sizes.{record_within}
use Rattle.records.proofs.Prefixes.{decided, next_stays}
use Rattle.playback.specs.Replay.{Play, rests, onto, answered, play_as, play_of, records_reply, reply_from, version_fault, replay_device, zero_sectors, reply_of}
use Rattle.playback.specs.declared.Stage.{Stage}
use Rattle.playback.specs.declared.Stage.TheVariants.{Opening, Replaying, Over}
use Rattle.recording.specs.Turns.{open_of, turn_as, whole_play}
use Rattle.recording.proofs.Whole.{right_length, zeroed_sectors}
use Rattle.recording.specs.Streams.{to_come, Piece, joined, turn_on, streamed_of}

-- ---- enough records

-- behind a record there are three bytes fewer
shorter : (l : List ℕ) (size n : ℕ) → (3 ≤ size) × (size ≤ length l) → length l < 3 * suc n → length (drop size l) < 3 * n
shorter l size n w h =
    let a : 3 ≤ size = w.0 in
    let b : size ≤ length l = w.1 in
    let e : length (drop size l) ≡ length l - size = length-drop size l in
    omega arith

none_below : (n : ℕ) → n < 3 * 0 → ⊥
none_below n h = omega arith

more_records : (last : Bool) (n k : ℕ) (d : Device) (m l : List ℕ) → length l < 3 * n → play_of last (n + k) d m l ≡ play_of last n d m l
unfolding play_of play_as
more_records last zero k d m l h = absurd (none_below (length l) h)
more_records last (suc n) k d m l h =
    let e : suc n + k ≡ suc (n + k) = omega arith in
    ap (λ (i : ℕ). play_of last i d m l) e ∙ go (next_of l) refl (λ d' m' l'. more_records last n k d' m' l')
  where
    go : (x : Result Record NoRecord) → next_of l ≡ x → ((d' : Device) (m' l' : List ℕ) → length l' < 3 * n → play_of last (n + k) d' m' l' ≡ play_of last n d' m' l')
        → play_as last d m l (play_of last (n + k)) x ≡ play_as last d m l (play_of last n) x
    go (Ok r) e ih = ap (onto r.size (answered (step_of d m r.action))) (ih _ _ (drop r.size l) (shorter l r.size n (record_within l r e) h))
    go (Err Nothing) e ih = refl
    go (Err Part) e ih = refl
    go (Err Malformed) e ih = refl

-- any number of records above a third of the bytes gives them all
pub enough_records : (n : ℕ) (d : Device) (m l : List ℕ) → length l < 3 * n → (play_of true n d m l).reply ≡ records_reply d m l
unfolding records_reply
enough_records n d m l h =
    let k : ℕ = suc (length l) in
    let e : n + k ≡ k + n = omega arith in
    ap (λ (p : Play). p.reply) (sym (more_records true n k d m l h) ∙ ap (λ (i : ℕ). play_of true i d m l) e ∙ more_records true k n d m l (omega arith))

-- and ends the replay
pub enough_ends : (n : ℕ) (d : Device) (m l : List ℕ) → length l < 3 * n → (play_of true n d m l).stage ≡ Over
unfolding play_of play_as
enough_ends zero d m l h = absurd (none_below (length l) h)
enough_ends (suc n) d m l h = go (next_of l) refl (λ d' m' l'. enough_ends n d' m' l')
  where
    go : (x : Result Record NoRecord) → next_of l ≡ x → ((d' : Device) (m' l' : List ℕ) → length l' < 3 * n → (play_of true n d' m' l').stage ≡ Over)
        → (play_as true d m l (play_of true n) x).stage ≡ Over
    go (Ok r) e ih = ih _ _ (drop r.size l) (shorter l r.size n (record_within l r e) h)
    go (Err Nothing) e ih = refl
    go (Err Part) e ih = refl
    go (Err Malformed) e ih = refl

-- ---- one record of the reply to them all

-- the reply by what the bytes start with
abbrev replies_as : Device → List ℕ → List ℕ → Result Record NoRecord → List ℕ
replies_as d m l (Ok r) = answered (step_of d m r.action) ++ records_reply (step_of d m r.action).outcome.device (step_of d m r.action).sectors (drop r.size l)
replies_as d m l (Err Nothing) = []
replies_as d m l (Err Part) = fault_bytes
replies_as d m l (Err Malformed) = fault_bytes

records_next : (d : Device) (m l : List ℕ) (x : Result Record NoRecord) → next_of l ≡ x → records_reply d m l ≡ replies_as d m l x
unfolding records_reply play_of play_as
records_next d m l x e = ap (λ (i : Result Record NoRecord). (play_as true d m l (play_of true (length l)) i).reply) e ∙ go x e
  where
    go : (y : Result Record NoRecord) → next_of l ≡ y → (play_as true d m l (play_of true (length l)) y).reply ≡ replies_as d m l y
    go (Ok r) h =
        let w : (3 ≤ r.size) × (r.size ≤ length l) = record_within l r h in
        let s : length (drop r.size l) ≡ length l - r.size = length-drop r.size l in
        let b : 3 ≤ r.size = w.0 in
        let c : r.size ≤ length l = w.1 in
        ap (λ (i : List ℕ). answered (step_of d m r.action) ++ i) (enough_records (length l) _ _ (drop r.size l) (omega arith))
    go (Err Nothing) h = refl
    go (Err Part) h = refl
    go (Err Malformed) h = refl

-- ---- a turn

-- nothing comes behind the last bytes
abbrev pub Behind : Bool → List ℕ → Type 0
Behind last rest = last ≡ true → rest ≡ []

-- the reply to the bytes l with `rest` behind them is what the turn over l replies, and then what is still to come
abbrev Continues : List ℕ → List ℕ → List ℕ → Play → Type 0
Continues whole l rest p = whole ≡ p.reply ++ to_come p.stage p.device p.sectors (drop p.taken l ++ rest)

play_continues : (last : Bool) (n : ℕ) (d : Device) (m l rest : List ℕ) → Behind last rest → Continues (records_reply d m (l ++ rest)) l rest (play_of last n d m l)
unfolding play_of play_as to_come
play_continues last zero d m l rest b = refl
play_continues last (suc n) d m l rest b = go (next_of l) refl (λ d' m' l'. play_continues last n d' m' l' rest b)
  where
    alone : last ≡ true → l ++ rest ≡ l
    alone e = ap (λ (r : List ℕ). l ++ r) (b e) ∙ append-nil l

    waits : (x : Result Record NoRecord) (w : List ℕ) → next_of l ≡ x → replies_as d m l x ≡ w → (i : Bool) → last ≡ i
        → Continues (records_reply d m (l ++ rest)) l rest (pick i (rests d m w Over) (rests d m [] Replaying))
    waits x w e r true h = ap (records_reply d m) (alone h) ∙ records_next d m l x e ∙ r ∙ sym (append-nil w)
    waits x w e r false h = refl

    go : (x : Result Record NoRecord) → next_of l ≡ x
        → ((d' : Device) (m' l' : List ℕ) → Continues (records_reply d' m' (l' ++ rest)) l' rest (play_of last n d' m' l'))
        → Continues (records_reply d m (l ++ rest)) l rest (play_as last d m l (play_of last n) x)
    go (Ok r) e ih =
        let s : Step = step_of d m r.action in
        let p : Play = play_of last n s.outcome.device s.sectors (drop r.size l) in
        records_next d m (l ++ rest) (Ok r) (next_stays l rest (ap decided e) ∙ e)
        ∙ ap (λ (i : List ℕ). answered s ++ records_reply s.outcome.device s.sectors i) (drop-append-le r.size l rest (record_within l r e).1)
        ∙ ap (λ (i : List ℕ). answered s ++ i) (ih s.outcome.device s.sectors (drop r.size l))
        ∙ sym (append_assoc (answered s) p.reply (to_come p.stage p.device p.sectors (drop p.taken (drop r.size l) ++ rest)))
        ∙ ap (λ (i : List ℕ). (answered s ++ p.reply) ++ to_come p.stage p.device p.sectors (i ++ rest)) (drop-drop p.taken r.size l)
    go (Err Nothing) e ih = nothing last refl
      where
        nothing : (i : Bool) → last ≡ i → Continues (records_reply d m (l ++ rest)) l rest (rests d m [] (pick i Over Replaying))
        nothing true h = waits (Err Nothing) [] e refl true h
        nothing false h = refl
    go (Err Part) e ih = waits (Err Part) fault_bytes e refl last refl
    go (Err Malformed) e ih = records_next d m (l ++ rest) (Err Malformed) (next_stays l rest (ap decided e) ∙ e)

open_continues : (last : Bool) (room : ℕ) (d : Device) (m l rest : List ℕ) → Behind last rest → Continues (reply_from d m (l ++ rest)) l rest (open_of last room d m l)
unfolding open_of to_come reply_from
open_continues last room d m [] rest b = go last refl
  where
    go : (i : Bool) → last ≡ i → Continues (reply_from d m rest) [] rest (pick i (rests d m version_fault Over) (rests d m [] Opening))
    go true h = ap (reply_from d m) (b h)
    go false h = refl
open_continues last room d m (v ∷ l) rest b =
    let some : ltb (length (v ∷ l)) 1 ≡ false = le-ltb (length (v ∷ l)) 1 (omega arith) in
    rw some (go (eqb v 1))
  where
    p : Play
    p = play_of last ((room - 1) / 5) d m l

    go : (i : Bool) → Continues (pick i (1 ∷ records_reply d m (l ++ rest)) version_fault) (v ∷ l) rest (pick i (onto 1 (1 ∷ []) (play_of last ((room - 1) / 5) d m l)) (rests d m version_fault Over))
    go true =
        let e : 1 + p.taken ≡ suc p.taken = omega arith in
        ap (λ (i : List ℕ). 1 ∷ i) (play_continues last ((room - 1) / 5) d m l rest b)
        ∙ ap (λ (i : ℕ). 1 ∷ (p.reply ++ to_come p.stage p.device p.sectors (drop i (v ∷ l) ++ rest))) (sym e)
    go false = refl

-- whatever the room
pub turn_continues : (stage : Stage) (last : Bool) (room : ℕ) (d : Device) (m l rest : List ℕ) → Behind last rest
    → to_come stage d m (l ++ rest) ≡ (turn_as stage last room d m l).reply
    ++ to_come (turn_as stage last room d m l).stage (turn_as stage last room d m l).device (turn_as stage last room d m l).sectors (drop (turn_as stage last room d m l).taken l ++ rest)
unfolding turn_as to_come
turn_continues Opening last room d m l rest b = go (ltb room 4)
  where
    go : (i : Bool) → Continues (reply_from d m (l ++ rest)) l rest (pick i (rests d m [] Opening) (open_of last room d m l))
    go true = refl
    go false = open_continues last room d m l rest b
turn_continues Replaying last room d m l rest b = play_continues last (room / 5) d m l rest b
turn_continues Over last room d m l rest b = refl

-- ---- all turns

pub streamed : (stage : Stage) (d : Device) (m held : List ℕ) (ps : List Piece) → streamed_of stage d m held ps ≡ to_come stage d m (held ++ joined ps)
unfolding streamed_of joined
streamed stage d m held [] = ap (to_come stage d m) (sym (append-nil held))
streamed stage d m held (p ∷ ps) =
    let q : Play = turn_on stage d m held p in
    ap (λ (i : List ℕ). q.reply ++ i) (streamed q.stage q.device q.sectors (drop q.taken (held ++ p.bytes)) ps)
    ∙ sym (turn_continues stage false p.room d m (held ++ p.bytes) (joined ps) (λ h. absurd (false≢true h)))
    ∙ ap (to_come stage d m) (append_assoc held p.bytes (joined ps))

-- the turns over the pieces of a recording, from the start, give its reply
pub streamed_reply : (ps : List Piece) → streamed_of Opening replay_device zero_sectors [] ps ≡ reply_of (joined ps)
unfolding to_come
streamed_reply ps = streamed Opening replay_device zero_sectors [] ps

-- ---- the last turn

open_ends : (room : ℕ) (d : Device) (m l : List ℕ) → length l < 3 * ((room - 1) / 5) → (open_of true room d m l).stage ≡ Over
unfolding open_of
open_ends room d m [] h = refl
open_ends room d m (v ∷ l) h =
    let some : ltb (length (v ∷ l)) 1 ≡ false = le-ltb (length (v ∷ l)) 1 (omega arith) in
    rw some (version (eqb v 1))
  where
    version : (b : Bool) → (pick b (onto 1 (1 ∷ []) (play_of true ((room - 1) / 5) d m l)) (rests d m version_fault Over)).stage ≡ Over
    version true = enough_ends ((room - 1) / 5) d m l (omega arith)
    version false = refl

turn_ends : (stage : Stage) (room : ℕ) (d : Device) (m l : List ℕ) → 4 ≤ room → length l < 3 * ((room - 1) / 5) → (turn_as stage true room d m l).stage ≡ Over
unfolding turn_as
turn_ends Opening room d m l h k = let wide : ltb room 4 ≡ false = le-ltb _ _ h in rw wide (open_ends room d m l k)
turn_ends Replaying room d m l h k = enough_ends (room / 5) d m l (omega arith)
turn_ends Over room d m l h k = refl

over_nothing : (stage : Stage) (d : Device) (m l : List ℕ) → stage ≡ Over → to_come stage d m l ≡ []
unfolding to_come
over_nothing stage d m l e = ap (λ (i : Stage). to_come i d m l) e

-- with room for what the bytes held can bring, it gives all that was still to come, and ends the replay
pub last_turn : (stage : Stage) (room : ℕ) (d : Device) (m l : List ℕ) → 4 ≤ room → length l < 3 * ((room - 1) / 5)
    → ((turn_as stage true room d m l).reply ≡ to_come stage d m l) × ((turn_as stage true room d m l).stage ≡ Over)
last_turn stage room d m l h k =
    let p : Play = turn_as stage true room d m l in
    let over : (turn_as stage true room d m l).stage ≡ Over = turn_ends stage room d m l h k in (
      sym
          (ap (to_come stage d m) (sym (append-nil l)) ∙ turn_continues stage true room d m l [] (λ i. refl)
          ∙ ap (λ (i : List ℕ). p.reply ++ i) (over_nothing p.stage p.device p.sectors (drop p.taken l ++ []) over) ∙ append-nil p.reply),
      over,
    )

-- ---- a whole recording at once

-- over 64 sectors, and with room for it, its reply is the recording's
pub whole_reply : (l m : List ℕ) (room : ℕ) → length m ≡ 32768 → 4 ≤ room → length l < 3 * ((room - 1) / 5)
    → ((whole_play l m room).reply ≡ reply_of l) × ((whole_play l m room).stage ≡ Over)
unfolding whole_play to_come
whole_reply l m room e h k =
    let t = last_turn Opening room replay_device (zeroed m) l h k in
    simp (right_length m e) (t.0 ∙ ap (λ (z : List ℕ). reply_from replay_device z l) (zeroed_sectors m e), t.1)
