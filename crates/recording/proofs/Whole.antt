-- The replay's device is in shape over 64 sectors, and one turn over cleared memory is the replay of the whole recording.
use Prim.Native.Nat.{ℕ}
use mathlib.Core.Bool.{Bool, true, false}
use mathlib.Core.Logic.{◌≢◌}
use mathlib.Core.Path.{◌≡◌, refl, sym, ap, ◌∙◌}
use mathlib.Core.List.{List, ◌++◌}
use lib.Dec.{eqb}
use lib.ListN.{length, drop, replicate}
use borrow.Author.Tests.{eq-eqb, ne_eqb}
use Rattle.block.specs.Sectors.{zeroed}
use Rattle.device.specs.Host.{Ready}
use Rattle.face.specs.declared.Answer.TheVariants.{Done}
use Rattle.playback.specs.Replay.{Play, replay_device, zero_sectors, is_over}
use Rattle.playback.proofs.Samples.{device_ready, sectors_length}
use Rattle.player.specs.Parts.{Gives}
use Rattle.player.specs.declared.Came.{Came}
use Rattle.playback.specs.declared.Stage.TheVariants.{Opening}
use Rattle.recording.specs.Turns.{start_of, turn_as, whole_play, replayed, replayed_of}
use Rattle.recording.specs.declared.Stream.{Stream}
use Rattle.recording.specs.declared.Replayed.{Replayed}

-- ---- the device

pub replay_ready : (s : Stream) (m : List ℕ) → s ≡ start_of → length m ≡ 32768 → Ready s.device m
replay_ready s m e l = rw (sym (ap (λ (x : Stream). x.device) e)) at device_ready m l

-- ---- its memory

pub zeroed_sectors : (m : List ℕ) → length m ≡ 32768 → zeroed m ≡ zero_sectors
unfolding zeroed zero_sectors
zeroed_sectors m e = ap (λ (n : ℕ). replicate n 0) e

pub right_length : (m : List ℕ) → length m ≡ 32768 → eqb (length m) (length zero_sectors) ≡ true
right_length m e = eq-eqb _ _ (e ∙ sym sectors_length)

wrong_length : (m : List ℕ) → length m ≢ 32768 → eqb (length m) (length zero_sectors) ≡ false
wrong_length m e = ne_eqb _ _ (λ h. e (h ∙ sectors_length))

-- ---- one turn from the start

pub replays : (l m out₀ cleared : List ℕ) (s : Stream) (r : Came) (m' out : List ℕ) (over : Bool) → length m ≡ 32768 → s ≡ start_of → cleared ≡ zeroed m
    → Gives (turn_as s.stage true (length out₀) s.device cleared l) r m' out₀ out → over ≡ is_over r.stage
    → (◌≡◌ {A = Replayed} (record { number = 0; made = r.made; whole = over }) (replayed_of l m (length out₀)))
    × ((m' ≡ (whole_play l m (length out₀)).sectors) × (out ≡ (whole_play l m (length out₀)).reply ++ drop r.made out₀))
unfolding whole_play
replays l m out₀ cleared s r m' out over k e z g o =
    simp (right_length m k) (from (turn_as Opening true (length out₀) replay_device (zeroed m) l) (rw (e, z) at g))
  where
    from : (p : Play) → Gives p r m' out₀ out
        → (◌≡◌ {A = Replayed} (record { number = 0; made = r.made; whole = over }) (replayed Done p)) × ((m' ≡ p.sectors) × (out ≡ p.reply ++ drop r.made out₀))
    from p g = (
      ap (λ (b : Bool). record { number = 0; made = r.made; whole = b }) o ∙ ap (λ (x : Came). record { number = 0; made = x.made; whole = is_over x.stage }) g.result,
      (g.sectors, g.reply ∙ ap (λ (x : Came). p.reply ++ drop x.made out₀) (sym g.result)),
    )

pub replays_nothing : (l m out : List ℕ) → length m ≢ 32768
    → (◌≡◌ {A = Replayed} (record { number = 3; made = 0; whole = false }) (replayed_of l m (length out)))
    × ((m ≡ (whole_play l m (length out)).sectors) × (out ≡ (whole_play l m (length out)).reply ++ drop 0 out))
unfolding whole_play
replays_nothing l m out k = simp (wrong_length m k) (refl, (refl, refl))
