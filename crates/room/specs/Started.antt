-- What power-on and hardware reset leave, by nothing but what they keep (document 01, "The disk and its three lives").
use Rattle.std.specs.Prelude.{ℕ, Bool, false, List}
use Rattle.geometry.specs.Translation.{factory_of}
use Rattle.geometry.specs.declared.Geometry.{Geometry}
use Rattle.block.specs.Sectors.{zero_block}
use Rattle.lock.specs.Lock.{starting_lock}
use Rattle.lock.specs.declared.Security.{Security}
use Rattle.lock.specs.declared.Secrets.{Secrets}
use Rattle.settled.specs.declared.Settled.{Settled}
use Rattle.settled.specs.declared.Identity.{Identity}
use Rattle.face.specs.Face.{start_hot}
use Rattle.face.specs.declared.Face.{Face}
use Rattle.face.specs.declared.Answer.TheVariants.{Done}
use Rattle.device.specs.Alone.{device_of, Step, shown}

-- "preparation cleared, five attempts, frozen ended, locked exactly if security is enabled .. level .. stay"
abbrev pub started_security : Bool → Bool → Security
started_security maximum enabled =
    record { lock = starting_lock enabled; enabled = enabled; maximum = maximum; attempts = 5; prepared = false }

-- "factory translation"
abbrev pub started_settled : Geometry → Identity → Bool → Bool → Settled
started_settled g i maximum enabled =
    record { geometry = g; translation = factory_of g; identity = i; security = started_security maximum enabled }

-- "registers to their start values .. transfer dropped, sector buffer zeroed, interrupt and Device Control cleared"
abbrev pub started_face : Geometry → Identity → Bool → Bool → Face
started_face g i maximum enabled =
    record { hot = start_hot; settled = started_settled g i maximum enabled; buffer = zero_block }

-- "Passwords, level and sectors stay", and the answer is 0 with value 0
abbrev pub started_step : Geometry → Identity → Bool → Bool → Secrets → List ℕ → Step
started_step g i maximum enabled x m = shown (device_of (started_face g i maximum enabled) x) m Done 0
