-- A disk alone on its cable: its actions, DEV set or not, and what the fast path settled (document 01, "Registers").
use Rattle.std.specs.Prelude.{ℕ, List}
use Rattle.base.specs.Choice.{pick}
use Rattle.lock.specs.declared.Secrets.{Secrets}
use Rattle.face.specs.Face.{with_hot, with_buffer}
use Rattle.face.specs.Reads.{number_of, value_of}
use Rattle.face.specs.declared.Face.{Face}
use Rattle.face.specs.declared.Hot.{Hot}
use Rattle.face.specs.declared.Shows.{Shows}
use Rattle.face.specs.declared.Answer.{Answer}
use Rattle.face.specs.declared.Answer.TheVariants.{Done}
use Rattle.face.specs.declared.Action.{Action}
use Rattle.effects.specs.Effects.{Effect}
use Rattle.disk.specs.Actions.{act_of}
use Rattle.fastpath.specs.Dev.{ignored_of}
use Rattle.effects.specs.declared.Acted.{Acted}
use Rattle.device.specs.declared.Device.{Device}
use Rattle.device.specs.declared.Outcome.{Outcome}

-- a device of these parts
abbrev pub device_of : Face → Secrets → Device
device_of f x = record { face = f; secrets = x }

-- an answer by its number, its value, and the device
abbrev pub outcome : Device → Answer → ℕ → Outcome
outcome d a v = record { number = number_of a; value = value_of a v; device = d }

-- a host action's outcome, and every sector
pub record Step : Type 0 where
  pub outcome : Outcome
  pub sectors : List ℕ

-- an action that changes nothing
abbrev pub shown : Device → List ℕ → Answer → ℕ → Step
shown d m a v = record { outcome = outcome d a v; sectors = m }

-- what a disk's own action left
abbrev pub told_of : Acted → Outcome
told_of x = outcome (device_of x.face x.secrets) x.answer x.value

-- the disk's own action
abbrev pub step_as : Effect → Step
step_as e = record { outcome = told_of e.acted; sectors = e.sectors }

-- the action as the disk does it, DEV set or not
abbrev pub acted_of : Device → List ℕ → Action → Step
acted_of d m a = step_as (act_of d.face d.secrets m a)

-- an action on a device in shape over its own memory; "that read changes nothing"
unfoldable pub alone_of : Device → List ℕ → Action → Step
alone_of d m a = pick (ignored_of d.face.hot a) (shown d m Done 0) (acted_of d m a)

-- what the fast path settled, put in place
abbrev pub quick_outcome : Device → List ℕ → Shows Hot → Outcome
quick_outcome d b s = outcome (device_of (with_hot (with_buffer d.face b) s.left) d.secrets) s.answer s.value
