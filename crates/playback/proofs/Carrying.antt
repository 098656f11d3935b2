-- The fast path's way is the replay's: each record on it is one step of the definition, since what the fast path settles is what the action gives.
use Prim.Native.Nat.{ℕ, zero, suc, ◌+◌, ◌-◌, ◌≤◌}
use mathlib.Core.Bool.{Bool}
use mathlib.Core.Path.{◌≡◌, refl}
use mathlib.Core.List.{List}
use native.Mathlib.Omega.{arith}
use lib.ListN.{drop}
use Rattle.std.specs.Prelude.{Option, Some, None, Result, Ok, Err}
use Rattle.face.specs.declared.Hot.{Hot}
use Rattle.face.specs.declared.Shows.{Shows}
use Rattle.fastpath.specs.Dev.{quick_alone, quick_alone_buffer}
use Rattle.device.specs.declared.Device.{Device}
use Rattle.device.proofs.FastStep.{quick_settles}
use Rattle.records.specs.Records.{next_of}
use Rattle.records.specs.declared.Record.{Record}
use Rattle.records.specs.declared.NoRecord.{NoRecord}
use Rattle.loops.specs.Ways.{Way, way_behind, swift_quick, swift_as, swift_of}
use Rattle.playback.specs.Replay.{Play}
use Rattle.playback.specs.Loops.{whole_of, Playing}
use Rattle.playback.proofs.Playing.{playing_more, playing_left}

-- a replay that came to where a loop over the hot part stands
abbrev pub PlayingAt : Play → Bool → List ℕ → List ℕ → ℕ → Device → List ℕ → Way → Type 0
PlayingAt whole last l out₀ memory d m w =
    Playing whole last l out₀ memory (w.stand.left + 1) (whole_of d w.stand.hot w.buffer) m w.out w.stand.at w.stand.put

-- one record that the fast path settles
playing_quick : {whole : Play} {last : Bool} {l out₀ : List ℕ} {memory : ℕ} (d : Device) {m : List ℕ} (w : Way) → 1 ≤ w.stand.left
    → (r : Record) → next_of (drop w.stand.at l) ≡ Ok r
    → (x : _) → quick_alone w.stand.hot w.buffer r.action ≡ Some x
    → PlayingAt whole last l out₀ memory d m w
    → PlayingAt whole last l out₀ memory d m (way_behind w r.size (quick_alone_buffer w.stand.hot w.buffer r.action) x)
playing_quick d {m = m} w g r e x q p =
    playing_more (playing_left p ((w.stand.left - 1 + 1) + 1) (omega arith)) r e _
    (quick_settles (whole_of d w.stand.hot w.buffer) m r.action _ x q refl) refl _ refl

-- the whole way
pub swift_plays : (n : ℕ) {whole : Play} {last : Bool} {l out₀ : List ℕ} {memory : ℕ} (d : Device) {m : List ℕ} (w : Way) → n ≤ w.stand.left
    → PlayingAt whole last l out₀ memory d m w → PlayingAt whole last l out₀ memory d m (swift_of n l w)
unfolding swift_of swift_as swift_quick
swift_plays zero d w h p = p
swift_plays (suc n) {whole} {last} {l} {out₀} {memory} d {m} w h p = found (λ v g q. swift_plays n d v g q) (next_of (drop w.stand.at l)) refl
  where
    settled : ((v : Way) → n ≤ v.stand.left → PlayingAt whole last l out₀ memory d m v → PlayingAt whole last l out₀ memory d m (swift_of n l v))
        → (r : Record) → next_of (drop w.stand.at l) ≡ Ok r → (q : Option (Shows Hot)) → quick_alone w.stand.hot w.buffer r.action ≡ q
        → PlayingAt whole last l out₀ memory d m (swift_quick (swift_of n l) w r.size (quick_alone_buffer w.stand.hot w.buffer r.action) q)
    settled rest r e (Some x) q =
        rest (way_behind w r.size (quick_alone_buffer w.stand.hot w.buffer r.action) x) (omega arith) (playing_quick d w (omega arith) r e x q p)
    settled rest r e None q = p

    found : ((v : Way) → n ≤ v.stand.left → PlayingAt whole last l out₀ memory d m v → PlayingAt whole last l out₀ memory d m (swift_of n l v))
        → (x : Result Record NoRecord) → next_of (drop w.stand.at l) ≡ x → PlayingAt whole last l out₀ memory d m (swift_as (swift_of n l) w x)
    found rest (Ok r) e = settled rest r e (quick_alone w.stand.hot w.buffer r.action) refl
    found rest (Err e) f = p
