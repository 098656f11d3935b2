-- The replay of a recording (document 01, "Replay"): each record is a host action, and the first fault ends it.
use Rattle.std.specs.Prelude.{ℕ, zero, suc, ◌+◌, ◌*◌, Bool, true, false, List, [], ◌∷◌, ◌++◌, eqb, length, drop, replicate, Result, Ok, Err}
use Rattle.base.specs.Choice.{pick}
use Rattle.lock.specs.Passwords.{zero_password}
use Rattle.settled.specs.declared.Identity.{Identity}
use Rattle.device.specs.Alone.{Step}
use Rattle.device.specs.Setup.{setup_of}
use Rattle.device.specs.Host.{step_of}
use Rattle.device.specs.declared.Device.{Device}
use Rattle.records.specs.Records.{next_of}
use Rattle.records.specs.Replies.{reply_bytes, fault_bytes}
use Rattle.records.specs.declared.Record.{Record}
use Rattle.records.specs.declared.NoRecord.{NoRecord}
use Rattle.records.specs.declared.NoRecord.TheVariants.{Nothing, Part, Malformed}
use Rattle.playback.specs.declared.Stage.{Stage}
use Rattle.playback.specs.declared.Stage.TheVariants.{Opening, Replaying, Over}

-- "spaces for identity"
unfoldable pub spaces : Identity
spaces = record { serial = replicate 20 0x20; firmware = replicate 8 0x20; model = replicate 40 0x20 }

-- "The device is 4 x 2 x 8, spaces for identity, zero master password"
abbrev pub replay_device : Device
replay_device = (setup_of 4 2 8 spaces zero_password).device

-- "zero sectors"
unfoldable pub zero_sectors : List ℕ
zero_sectors = replicate (512 * 64) 0

-- the replay has ended
abbrev pub is_over : Stage → Bool
is_over Opening = false
is_over Replaying = false
is_over Over = true

-- no whole record is there: the replay is over where no byte comes behind
abbrev pub cut_stage : Bool → Stage
cut_stage last = pick last Over Replaying

-- what a part of a recording gives: the device and the sectors after it, how many of its bytes are used up, its reply, and where the replay stands
pub record Play : Type 0 where
  pub device : Device
  pub sectors : List ℕ
  pub taken : ℕ
  pub reply : List ℕ
  pub stage : Stage

-- the replay rests, with these last bytes of reply
abbrev pub rests : Device → List ℕ → List ℕ → Stage → Play
rests d m w stage = record { device = d; sectors = m; taken = 0; reply = w; stage = stage }

-- n bytes of the recording and the reply w come before
abbrev pub onto : ℕ → List ℕ → Play → Play
onto n w p =
    record { device = p.device; sectors = p.sectors; taken = n + p.taken; reply = w ++ p.reply; stage = p.stage }

-- "per record length 0003h, answer, two-byte value"
abbrev pub answered : Step → List ℕ
answered s = reply_bytes s.outcome.number s.outcome.value

-- the bytes go on with no whole record: "a record cut short", where none come behind them
abbrev pub cut_short : Bool → Device → List ℕ → Play
cut_short last d m = pick last (rests d m fault_bytes Over) (rests d m [] Replaying)

-- by what the bytes start with; `last` says that none come behind them
unfoldable pub play_as : Bool → Device → List ℕ → List ℕ → (Device → List ℕ → List ℕ → Play) → Result Record NoRecord → Play
play_as last d m l rest (Ok r) =
    onto r.size (answered (step_of d m r.action)) (rest (step_of d m r.action).outcome.device (step_of d m r.action).sectors (drop r.size l))
play_as last d m l rest (Err Nothing) = rests d m [] (cut_stage last)
play_as last d m l rest (Err Part) = cut_short last d m
play_as last d m l rest (Err Malformed) = rests d m fault_bytes Over

-- n records at the most: "The first fault .. adds 00 01 05 (length 1, answer 5) and ends"
unfoldable pub play_of : Bool → ℕ → Device → List ℕ → List ℕ → Play
play_of last zero d m l = rests d m [] Replaying
play_of last (suc n) d m l = play_as last d m l (play_of last n) (next_of l)

-- all records of a recording that ends with them; there are fewer than bytes
unfoldable pub records_reply : Device → List ℕ → List ℕ → List ℕ
records_reply d m l = (play_of true (suc (length l)) d m l).reply

-- "empty input gives 01 00 01 05"; the same for another version
abbrev pub version_fault : List ℕ
version_fault = 1 ∷ fault_bytes

-- a whole recording, from this device and these sectors on: "version byte 01h, then records", "Reply: 01h, then per record"
unfoldable pub reply_from : Device → List ℕ → List ℕ → List ℕ
reply_from d m [] = version_fault
reply_from d m (version ∷ l) = pick (eqb version 1) (1 ∷ records_reply d m l) version_fault

-- the reply to a recording
abbrev pub reply_of : List ℕ → List ℕ
reply_of l = reply_from replay_device zero_sectors l
