-- The three samples of document 01, "Replay": the device that a replay starts with is in shape over 64 sectors, and Status of it is 50h.
use Prim.Native.Nat.{ℕ, ◌*◌}
use mathlib.Core.Path.{◌≡◌, refl, sym, ap, ◌∙◌}
use mathlib.Core.List.{List, [], ◌∷◌}
use mathlib.Core.Bool.{true}
use native.Mathlib.Omega.{arith}
use lib.ListN.{length, length-replicate}
use Rattle.base.specs.Choice.{within}
use Rattle.geometry.specs.Geometry.{max_cylinders, max_heads, max_sectors, geometry_of, capacity_of}
use Rattle.geometry.proofs.Limits.{Limits, limits_fit}
use Rattle.lock.specs.Passwords.{zero_password}
use Rattle.settled.specs.Identity.{printable, identity_fits}
use Rattle.face.specs.Reads.{status_of, read_register}
use Rattle.face.specs.declared.Action.TheVariants.{ReadRegister}
use Rattle.fastpath.specs.Dev.{dev_set, ignored_of}
use Rattle.disk.specs.Actions.{act_of}
use Rattle.device.specs.Alone.{alone_of}
use Rattle.device.specs.Setup.{fresh_of}
use Rattle.device.specs.Host.{Ready, shaped_of, step_of, memory_length}
use Rattle.device.specs.declared.Device.{Device}
use Rattle.device.specs.declared.Outcome.{Outcome}
use Rattle.laws.proofs.Refusals.{setup_within}
use Rattle.laws.proofs.Reached.{fresh_shaped}
use Rattle.laws.proofs.Steps.{ready_step}
use Rattle.records.specs.Records.{length_of, payload_of, two_bytes, next_of}
use Rattle.playback.specs.Replay.{spaces, replay_device, zero_sectors, answered, play_as, play_of, records_reply, reply_from, reply_of}

-- ---- the device

replay_limits : Limits 4 2 8
unfolding max_cylinders max_heads max_sectors
replay_limits = record { some_cylinders = omega arith; few_cylinders = omega arith; some_heads = omega arith; few_heads = omega arith; some_sectors = omega arith; few_sectors = omega arith }

spaces_fit : identity_fits spaces ≡ true
unfolding identity_fits printable within spaces
spaces_fit = refl

replay_fresh : replay_device ≡ fresh_of (geometry_of 4 2 8) spaces zero_password
replay_fresh = ap (λ (o : Outcome). o.device) (setup_within 4 2 8 spaces zero_password replay_limits spaces_fit)

replay_length : memory_length replay_device ≡ 32768
unfolding capacity_of
replay_length = ap memory_length replay_fresh

pub device_ready : (m : List ℕ) → length m ≡ 32768 → Ready replay_device m
device_ready m l =
    record {
      shaped = ap shaped_of replay_fresh ∙ fresh_shaped (geometry_of 4 2 8) spaces zero_password (limits_fit (geometry_of 4 2 8) replay_limits) spaces_fit;
      long = l ∙ sym replay_length;
    }

pub sectors_length : length zero_sectors ≡ 32768
unfolding zero_sectors
sectors_length = length-replicate {A = ℕ} (512 * 64) 0

-- ---- the samples

-- "empty input gives 01 00 01 05"
pub empty_reply : reply_of [] ≡ 1 ∷ 0 ∷ 1 ∷ 5 ∷ []
unfolding reply_from
empty_reply = refl

-- "a lone version byte gives 01"
pub lone_version_reply : reply_of (1 ∷ []) ≡ 1 ∷ []
unfolding reply_from records_reply play_of play_as next_of
lone_version_reply = refl

status_step : step_of replay_device zero_sectors (ReadRegister 7) ≡ alone_of (fresh_of (geometry_of 4 2 8) spaces zero_password) zero_sectors (ReadRegister 7)
status_step =
    ready_step replay_device zero_sectors (ReadRegister 7) (device_ready zero_sectors sectors_length)
    ∙ ap (λ (d : Device). alone_of d zero_sectors (ReadRegister 7)) replay_fresh

status_answered : answered (alone_of (fresh_of (geometry_of 4 2 8) spaces zero_password) zero_sectors (ReadRegister 7)) ≡ 0 ∷ 3 ∷ 0 ∷ 0 ∷ 0x50 ∷ []
unfolding alone_of ignored_of dev_set act_of read_register status_of
status_answered = refl

-- "Whole case: 01 00 02 01 07 gives 01 00 03 00 00 50"
pub status_reply : reply_of (1 ∷ 0 ∷ 2 ∷ 1 ∷ 7 ∷ []) ≡ 1 ∷ 0 ∷ 3 ∷ 0 ∷ 0 ∷ 0x50 ∷ []
unfolding reply_from records_reply play_of play_as next_of payload_of length_of two_bytes
status_reply = ap (λ (l : List ℕ). 1 ∷ l) (ap answered status_step ∙ status_answered)
