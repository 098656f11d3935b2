-- The inner loops follow the fast path: record by record, each of which it settles, or a glance, which it settles too.
use Prim.Native.Nat.{ℕ, zero, suc, ◌+◌, ◌-◌, ◌*◌, ◌≤◌, ◌<◌}
use mathlib.Core.Bool.{Bool}
use mathlib.Core.Path.{◌≡◌, refl, sym, ap, ◌∙◌}
use mathlib.Core.List.{List}
use native.Mathlib.Omega.{arith}
use lib.ListN.{length, take, drop}
use lib.Seq.{sets, length-sets}
use Rattle.std.specs.Prelude.{Option, Some, None, Result, Ok, Err}
use Rattle.face.specs.Reads.{seen}
use Rattle.face.specs.declared.Hot.{Hot}
use Rattle.face.specs.declared.Shows.{Shows}
use Rattle.face.specs.declared.Answer.TheVariants.{Done}
use Rattle.fastpath.specs.Dev.{quick_alone, quick_alone_buffer}
use Rattle.glance.specs.Places.{place_of, hot_at}
use Rattle.glance.specs.Glances.{glance_of, glance_buffer}
use Rattle.glance.specs.declared.Shown.{Shown}
use Rattle.glance.proofs.Glancing.{hot_same, glance_settles, glance_buffer_law}
use Rattle.records.specs.Records.{next_of}
use Rattle.records.specs.Replies.{reply_bytes}
use Rattle.records.specs.declared.Record.{Record}
use Rattle.records.specs.declared.NoRecord.{NoRecord}
use Rattle.records.proofs.Rest.{rest_starts, rest_within}
use Rattle.loops.specs.Ways.{stand_at, Stands, Way, way_at, settled_reply, way_behind, swift_quick, swift_as, swift_of, Onward}
use Rattle.loops.specs.declared.Stand.{Stand}

-- ---- the definition, one record or none

-- where the bytes start with nothing that it takes, the way ends
pub swift_rests : (n : ℕ) (l : List ℕ) (w : Way) (x : Result Record NoRecord) → next_of (drop w.stand.at l) ≡ x → ((rest : Way → Way) → swift_as rest w x ≡ w) → swift_of n l w ≡ w
unfolding swift_of
swift_rests zero l w x e g = refl
swift_rests (suc n) l w x e g = ap (swift_as (swift_of n l) w) e ∙ g (swift_of n l)

pub rests_slow : (w : Way) (r : Record) → quick_alone w.stand.hot w.buffer r.action ≡ None → (rest : Way → Way) → swift_as rest w (Ok r) ≡ w
unfolding swift_as swift_quick
rests_slow w r e rest = ap (swift_quick rest w r.size (quick_alone_buffer w.stand.hot w.buffer r.action)) e

-- where no reply fits any more, the way ends
pub swift_full : (n : ℕ) (l : List ℕ) (w : Way) → n ≤ 0 → swift_of n l w ≡ w
unfolding swift_of
swift_full n l w h = let g : n ≡ 0 = omega arith in ap (λ (k : ℕ). swift_of k l w) g

-- a record that the fast path settles is behind it
pub swift_next : (n : ℕ) (l : List ℕ) (w : Way) (r : Record) (x : Shows Hot) → next_of (drop w.stand.at l) ≡ Ok r
    → quick_alone w.stand.hot w.buffer r.action ≡ Some x
    → swift_of (suc n) l w ≡ swift_of n l (way_behind w r.size (quick_alone_buffer w.stand.hot w.buffer r.action) x)
unfolding swift_of swift_as swift_quick
swift_next n l w r x e q =
    ap (swift_as (swift_of n l) w) e ∙ ap (swift_quick (swift_of n l) w r.size (quick_alone_buffer w.stand.hot w.buffer r.action)) q

-- no reply fits afterwards that did not before
pub swift_fewer : (n : ℕ) (l : List ℕ) (w : Way) → (swift_of n l w).stand.left ≤ w.stand.left
unfolding swift_of swift_as swift_quick
swift_fewer zero l w = omega arith
swift_fewer (suc n) l w = found (λ v. swift_fewer n l v) (next_of (drop w.stand.at l))
  where
    settled : ((v : Way) → (swift_of n l v).stand.left ≤ v.stand.left) → (size : ℕ) (b : List ℕ) (q : Option (Shows Hot)) → (swift_quick (swift_of n l) w size b q).stand.left ≤ w.stand.left
    settled rest size b (Some x) = let g : (swift_of n l (way_behind w size b x)).stand.left ≤ w.stand.left - 1 = rest (way_behind w size b x) in omega arith
    settled rest size b None = omega arith

    found : ((v : Way) → (swift_of n l v).stand.left ≤ v.stand.left) → (x : Result Record NoRecord) → (swift_as (swift_of n l) w x).stand.left ≤ w.stand.left
    found rest (Ok r) = settled rest r.size (quick_alone_buffer w.stand.hot w.buffer r.action) (quick_alone w.stand.hot w.buffer r.action)
    found rest (Err e) = omega arith

-- where it stood in the recording and in the reply, it stands
pub swift_stands : (n : ℕ) (l : List ℕ) (w : Way) → n ≤ w.stand.left → Stands l w.out w.stand → Stands l (swift_of n l w).out (swift_of n l w).stand
unfolding swift_of swift_as swift_quick
swift_stands zero l w h s = s
swift_stands (suc n) l w h s = found (λ v g t. swift_stands n l v g t) (next_of (drop w.stand.at l)) refl
  where
    settled : ((v : Way) → n ≤ v.stand.left → Stands l v.out v.stand → Stands l (swift_of n l v).out (swift_of n l v).stand)
        → (r : Record) → next_of (drop w.stand.at l) ≡ Ok r → (b : List ℕ) (q : Option (Shows Hot))
        → Stands l (swift_quick (swift_of n l) w r.size b q).out (swift_quick (swift_of n l) w r.size b q).stand
    settled rest r e b (Some x) =
        let below : w.stand.at ≤ length l = s.below in
        let room : w.stand.put + 5 * (w.stand.left + 1) ≤ length w.out = s.room in
        let long : length (sets w.out w.stand.put (settled_reply x)) ≡ length w.out = length-sets w.out w.stand.put (settled_reply x) in
        let size : r.size ≤ length l - w.stand.at = rest_within l w.stand.at r e in
        rest (way_behind w r.size b x) (omega arith) (record { below = omega arith; room = omega arith })
    settled rest r e b None = s

    found : ((v : Way) → n ≤ v.stand.left → Stands l v.out v.stand → Stands l (swift_of n l v).out (swift_of n l v).stand)
        → (x : Result Record NoRecord) → next_of (drop w.stand.at l) ≡ x → Stands l (swift_as (swift_of n l) w x).out (swift_as (swift_of n l) w x).stand
    found rest (Ok r) e = settled rest r e (quick_alone_buffer w.stand.hot w.buffer r.action) (quick_alone w.stand.hot w.buffer r.action)
    found rest (Err i) e = s

-- ---- the loops

pub onward_then : {l : List ℕ} {w u v : Way} → Onward l w u → Onward l u v → Onward l w v
onward_then {w = w} {u = u} {v = v} f g =
    let x : u.stand.left ≤ w.stand.left = f.fewer in
    let y : v.stand.left ≤ u.stand.left = g.fewer in
    record { same = f.same ∙ g.same; stands = g.stands; fewer = omega arith; all = g.all ∙ f.all }

-- the way ends here, so this is where it leads
pub onward_ends : {l : List ℕ} {w u : Way} → Onward l w u → swift_of u.stand.left l u ≡ u → u ≡ swift_of w.stand.left l w
onward_ends f e = sym (f.same ∙ e)

-- one record that the fast path settles
pub onward_quick : (l : List ℕ) (w : Way) → Stands l w.out w.stand → 0 < w.stand.left → (r : Record) → next_of (drop w.stand.at l) ≡ Ok r
    → (x : Shows Hot) → quick_alone w.stand.hot w.buffer r.action ≡ Some x → (b : List ℕ) → b ≡ quick_alone_buffer w.stand.hot w.buffer r.action
    → (out : List ℕ) → out ≡ sets w.out w.stand.put (settled_reply x)
    → Onward l w (way_at (stand_at x.left (w.stand.at + r.size) (w.stand.put + 5) (w.stand.left - 1)) b out)
onward_quick l w h g r e x q b f out o =
    let y : length out ≡ length w.out = ap length o ∙ length-sets w.out w.stand.put (settled_reply x) in
    let v : r.size ≤ length l - w.stand.at = rest_within l w.stand.at r e in
    let below : w.stand.at ≤ length l = h.below in
    let room : w.stand.put + 5 * (w.stand.left + 1) ≤ length w.out = h.room in
    let n : w.stand.left ≡ suc (w.stand.left - 1) = omega arith in
    record {
      same =
          ap (λ (k : ℕ). swift_of k l w) n
          ∙ swift_next (w.stand.left - 1) l w r x e q
          ∙ ap (λ (i : List ℕ). swift_of (w.stand.left - 1) l (way_behind w r.size i x)) (sym f)
          ∙ ap (λ (i : List ℕ). swift_of (w.stand.left - 1) l (way_at (stand_at x.left (w.stand.at + r.size) (w.stand.put + 5) (w.stand.left - 1)) b i)) (sym o);
      stands = record { below = omega arith; room = omega arith };
      fewer = omega arith;
      all = y;
    }

-- the same, by what the steps to it gave
pub onward_settled : {l : List ℕ} {w : Way} → Stands l w.out w.stand → 0 < w.stand.left
    → {i : Result Record NoRecord} {r : Record} → i ≡ next_of (take (length l - w.stand.at) (drop w.stand.at l)) → i ≡ Ok r
    → {q : Option (Shows Hot)} {x : Shows Hot} → q ≡ quick_alone w.stand.hot w.buffer r.action → q ≡ Some x → {b : List ℕ} → b ≡ quick_alone_buffer w.stand.hot w.buffer r.action
    → {out : List ℕ} → out ≡ sets w.out w.stand.put (settled_reply x)
    → {t : Stand} → t ≡ stand_at x.left (w.stand.at + r.size) (w.stand.put + 5) (w.stand.left - 1) → Onward l w (way_at t b out)
onward_settled {l} {w} h g {r = r} e i {x = x} q s {b} f {out} o t =
    rw t (onward_quick l w h g r (rest_starts l w.stand.at _ _ e i) x (sym q ∙ s) b f out o)

-- one record that a glance shows
pub onward_glance : (l b out : List ℕ) (h : Hot) (word : ℕ) (raised : Bool) (at put left : ℕ) → Stands l out (stand_at (hot_at h word raised) at put left) → 0 < left
    → (r : Record) → next_of (drop at l) ≡ Ok r
    → (s : Shown) → glance_of h word raised b r.action ≡ Some s → (b' : List ℕ) → b' ≡ glance_buffer h word b r.action
    → (out' : List ℕ) → out' ≡ sets out put (reply_bytes 0 s.value)
    → Onward l (way_at (stand_at (hot_at h word raised) at put left) b out) (way_at (stand_at (hot_at h s.word s.raised) (at + r.size) (put + 5) (left - 1)) b' out')
onward_glance l b out h word raised at put left st g r e s q b' f out' o =
    onward_quick l (way_at (stand_at (hot_at h word raised) at put left) b out) st g r e
    (seen (hot_at h s.word s.raised) Done s.value) (glance_settles h word raised b r.action s q) b' (f ∙ glance_buffer_law h word raised b r.action) out' o

-- from the hot part with its own place and interrupt
pub onward_from : {l b out : List ℕ} {u : Way} (s : Stand) (word : ℕ) → word ≡ place_of s.hot.transfer
    → Onward l (way_at (stand_at (hot_at s.hot word s.hot.signals.raised) s.at s.put s.left) b out) u → Onward l (way_at s b out) u
onward_from {l} {b} {out} {u} s word e c = go (ap (λ (i : ℕ). hot_at s.hot i s.hot.signals.raised) e ∙ hot_same s.hot) c
  where
    go : {h : Hot} → h ≡ s.hot → Onward l (way_at (stand_at h s.at s.put s.left) b out) u → Onward l (way_at s b out) u
    go i k = rw (sym i) k

-- to the same buffer, said otherwise
pub onward_as : {l b out : List ℕ} {w : Way} {t : Stand} → Onward l w (way_at t b out) → (b' : List ℕ) → b' ≡ b → Onward l w (way_at t b' out)
onward_as c b' e = rw e c

pub way_as : {s : Stand} {b b' out : List ℕ} {v : Way} → b' ≡ b → way_at s b out ≡ v → way_at s b' out ≡ v
way_as e g = rw e g
