-- The host's calls over lent bytes: those of the device that the bytes hold, written back; bytes that are no device's get answer 2.
use Rattle.std.specs.Prelude.{ℕ, ◌*◌, ◌≡◌, true, List, eqb, length}
use Rattle.base.specs.Choice.{pick}
use Rattle.geometry.specs.Geometry.{capacity_of}
use Rattle.face.specs.Reads.{number_of}
use Rattle.face.specs.declared.Action.{Action}
use Rattle.face.specs.declared.Answer.{Answer}
use Rattle.face.specs.declared.Answer.TheVariants.{Done, OutOfShape, WrongLength}
use Rattle.device.specs.Alone.{Step}
use Rattle.device.specs.Host.{Ready, parts_shaped, step_of}
use Rattle.layout.specs.Stored.{hot_stored, settled_stored, geometry_stored, device_stored, formed_of}
use Rattle.layout.specs.Bytes.{state_of}
use Rattle.lent.specs.declared.Reply.{Reply}

-- an answer's number and value, as the host gets them
abbrev pub host_reply : ℕ → ℕ → Reply
host_reply n v = record { answer = n; value = v }

-- what a call gives, and what it leaves of all that was lent
pub record Lent : Type 0 where
  pub reply : Reply
  pub state : List ℕ
  pub buffer : List ℕ
  pub sectors : List ℕ

-- a call that is turned away: "0", "everything unchanged"
abbrev pub left_alone : List ℕ → List ℕ → List ℕ → Answer → Lent
left_alone b x m a = record { reply = host_reply (number_of a) 0; state = b; buffer = x; sectors = m }

-- a step of the device, written back
abbrev pub lent_of : Step → Lent
lent_of s =
    record {
      reply = host_reply s.outcome.number s.outcome.value;
      state = state_of s.outcome.device;
      buffer = s.outcome.device.face.buffer;
      sectors = s.sectors;
    }

-- any host action on any lent bytes over any memory
unfoldable pub lent_step : List ℕ → List ℕ → List ℕ → Action → Lent
lent_step b x m a = pick (formed_of b) (lent_of (step_of (device_stored b x) m a)) (left_alone b x m OutOfShape)

-- the call gives this and leaves that
pub record GivesBack (l : Lent) (r : Reply) (b x m : List ℕ) : Type 0 where
  pub reply : r ≡ l.reply
  pub state : b ≡ l.state
  pub buffer : x ≡ l.buffer
  pub sectors : m ≡ l.sectors

-- ---- how a call is let in

-- the bytes are a device's, in shape over its own memory
pub record Admitted (b x m : List ℕ) : Type 0 where
  pub formed : formed_of b ≡ true
  pub ready : Ready (device_stored b x) m

-- Done where they are, else why not: "Order: .. 2, 3"
unfoldable pub admission_of : List ℕ → List ℕ → Answer
admission_of b m =
    pick (formed_of b)
    (pick (parts_shaped (settled_stored b) (hot_stored b))
    (pick (eqb (length m) (512 * capacity_of (geometry_stored b))) Done WrongLength)
    OutOfShape)
    OutOfShape
