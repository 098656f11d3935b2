-- A session: a list of host actions, one after the other, on a device over its memory.
use Rattle.std.specs.Prelude.{ℕ, List, [], ◌∷◌, ◌++◌, map}
use Rattle.face.specs.Reads.{number_of, value_of}
use Rattle.face.specs.declared.Answer.{Answer}
use Rattle.face.specs.declared.Action.{Action}
use Rattle.face.specs.declared.Action.TheVariants.{ReadRegister}
use Rattle.device.specs.Alone.{Step}
use Rattle.device.specs.declared.Device.{Device}

-- what a host action does to a device over its memory; the device's own rules are `step_of`
abbrev pub Rules : Type 0
Rules = Device → List ℕ → Action → Step

-- an answer as the host gets it: "No." and "Returns"
pub record Given : Type 0 where
  pub number : ℕ
  pub value : ℕ

-- an answer by its number, and its value
abbrev pub given : Answer → ℕ → Given
given a v = record { number = number_of a; value = value_of a v }

-- all answers of a session, and the device and every sector after it
pub record Session : Type 0 where
  pub answers : List Given
  pub device : Device
  pub sectors : List ℕ

-- no action yet
abbrev pub no_session : Device → List ℕ → Session
no_session d m = record { answers = []; device = d; sectors = m }

-- a session with an action before it
abbrev pub led : Step → Session → Session
led s t =
    record {
      answers = record { number = s.outcome.number; value = s.outcome.value } ∷ t.answers;
      device = t.device;
      sectors = t.sectors;
    }

-- "Each host action hands back the whole device": the next one gets it, over the sectors as they then are
unfoldable pub session_of : Rules → Device → List ℕ → List Action → Session
session_of r d m [] = no_session d m
session_of r d m (a ∷ l) = led (r d m a) (session_of r (r d m a).outcome.device (r d m a).sectors l)

-- ---- what the host gets to see of it

-- the values of answers
abbrev pub values_of : List Given → List ℕ
values_of l = map (λ (g : Given). g.value) l

-- the last of these answers' values
abbrev pub last_value : List Given → ℕ
last_value [] = 0
last_value (g ∷ []) = g.value
last_value (g ∷ h ∷ l) = last_value (h ∷ l)

-- register n as the host reads it after these actions
abbrev pub register_after : Rules → Device → List ℕ → List Action → ℕ → ℕ
register_after r d m l n = last_value (session_of r d m (l ++ (ReadRegister n ∷ []))).answers
