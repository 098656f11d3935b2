-- What the loops of the replay hold on to, from one record to the next.
use Rattle.std.specs.Prelude.{ℕ, ◌+◌, ◌*◌, ◌≤◌, Bool, ◌≡◌, List, ◌++◌, length, drop}
use Rattle.face.specs.Face.{with_hot, with_buffer}
use Rattle.face.specs.declared.Hot.{Hot}
use Rattle.device.specs.Alone.{device_of}
use Rattle.device.specs.Host.{Ready}
use Rattle.device.specs.declared.Device.{Device}
use Rattle.playback.specs.Replay.{Play, onto, play_of}

-- the device, of which the loops hold the hot part and the buffer apart
abbrev pub whole_of : Device → Hot → List ℕ → Device
whole_of d h b = device_of (with_hot (with_buffer d.face b) h) d.secrets

-- of `whole`, the records before place `at` are replayed into out₀ up to `put`; n more fit
pub record Playing (whole : Play) (last : Bool) (l out₀ : List ℕ) (memory : ℕ) (n : ℕ) (d : Device) (m out : List ℕ) (at put : ℕ) : Type 0 where
  pub wrote : List ℕ
  pub is : out ≡ wrote ++ drop put out₀
  pub long : length wrote ≡ put
  pub room : put + 5 * n ≤ length out₀
  pub all : length out ≡ length out₀
  pub below : at ≤ length l
  pub ready : Ready d m
  pub same : length m ≡ memory
  pub plays : whole ≡ onto at wrote (play_of last n d m (drop at l))
