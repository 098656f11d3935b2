-- The host's calls: when they are turned away, and else what they do (document 01, "Host actions and when they are turned away").
use Rattle.std.specs.Prelude.{ℕ, ◌*◌, ◌≡◌, Bool, true, false, List, eqb, length}
use Rattle.base.specs.Choice.{pick}
use Rattle.geometry.specs.Geometry.{capacity_of}
use Rattle.settled.specs.declared.Settled.{Settled}
use Rattle.face.specs.Reads.{is_idle}
use Rattle.face.specs.declared.Hot.{Hot}
use Rattle.face.specs.declared.Answer.TheVariants.{OutOfShape, WrongLength}
use Rattle.face.specs.declared.Action.{Action}
use Rattle.shape.specs.Shape.{parts_fit}
use Rattle.device.specs.Alone.{Step, shown, alone_of}
use Rattle.fastpath.specs.Dev.{dev_set}
use Rattle.device.specs.declared.Device.{Device}

-- answer 2: a transfer "with DEV set .. DEV set while reset is held"
unfoldable pub alone_fits : Hot → Bool
alone_fits h = pick (dev_set h) (pick h.signals.held false (is_idle h.transfer)) true

-- all clauses: none of them asks for the buffer or the passwords
abbrev pub parts_shaped : Settled → Hot → Bool
parts_shaped s h = pick (parts_fit s h) (alone_fits h) false

-- the device is in shape
unfoldable pub shaped_of : Device → Bool
shaped_of d = parts_shaped d.face.settled d.face.hot

-- "sector memory is exactly 512 x capacity bytes"
abbrev pub memory_length : Device → ℕ
memory_length d = 512 * capacity_of d.face.settled.geometry

-- neither answer 2 nor answer 3: "state out of shape", "sector memory of wrong length"
pub record Ready (d : Device) (m : List ℕ) : Type 0 where
  pub shaped : shaped_of d ≡ true
  pub long : length m ≡ memory_length d

-- any host action on any device over any memory: "Order: .. 2, 3, then 1 or 4"
unfoldable pub step_of : Device → List ℕ → Action → Step
step_of d m a =
    pick (shaped_of d) (pick (eqb (length m) (memory_length d)) (alone_of d m a) (shown d m WrongLength 0))
    (shown d m OutOfShape 0)
