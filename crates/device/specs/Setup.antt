-- Setup (document 01, "The disk and its three lives"; answer 6).
use Rattle.std.specs.Prelude.{ℕ, List, Option, Some, None}
use Rattle.base.specs.Choice.{pick}
use Rattle.geometry.specs.Geometry.{checked_of}
use Rattle.geometry.specs.declared.Geometry.{Geometry}
use Rattle.lock.specs.Passwords.{zero_password, fresh_secrets}
use Rattle.settled.specs.Identity.{identity_fits}
use Rattle.settled.specs.Setup.{fresh_settled}
use Rattle.settled.specs.declared.Identity.{Identity}
use Rattle.face.specs.Face.{with_settled}
use Rattle.resets.specs.Resets.{powered_on_face}
use Rattle.face.specs.Setup.{zero_face}
use Rattle.face.specs.declared.Answer.TheVariants.{Done, SetupRefused}
use Rattle.device.specs.Alone.{outcome}
use Rattle.device.specs.declared.Device.{Device}
use Rattle.device.specs.declared.Outcome.{Outcome}

-- answer 6: "a device record all zero, itself out of shape"
abbrev pub zero_device : Device
zero_device = record { face = zero_face; secrets = record { user = zero_password; master = zero_password } }

-- a new disk: "The user password starts as 32 zeros .. Setup ends with a power-on"
abbrev pub fresh_of : Geometry → Identity → List ℕ → Device
fresh_of g i p = record { face = powered_on_face (with_settled zero_face (fresh_settled g i)); secrets = fresh_secrets p }

-- answer 6
abbrev pub setup_refused : Outcome
setup_refused = outcome zero_device SetupRefused 0

-- by the three counts
abbrev pub setup_as : Option Geometry → Identity → List ℕ → Outcome
setup_as (Some g) i p = pick (identity_fits i) (outcome (fresh_of g i p) Done 0) setup_refused
setup_as None i p = setup_refused

-- setup: "setup outside the limits above" is answer 6
unfoldable pub setup_of : ℕ → ℕ → ℕ → Identity → List ℕ → Outcome
setup_of c h s i p = setup_as (checked_of c h s) i p
