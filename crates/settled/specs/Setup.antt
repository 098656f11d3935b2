-- What setup makes of what commands seldom touch (document 01, "The disk and its three lives"; answer 6).
use Rattle.std.specs.Prelude.{false, replicate}
use Rattle.geometry.specs.Translation.{factory_of}
use Rattle.geometry.specs.declared.Geometry.{Geometry}
use Rattle.lock.specs.declared.Lock.TheVariants.{Open}
use Rattle.lock.specs.declared.Security.{Security}
use Rattle.settled.specs.declared.Identity.{Identity}
use Rattle.settled.specs.declared.Settled.{Settled}

-- an identity all zero
unfoldable pub zero_identity : Identity
zero_identity = record { serial = replicate 20 0; firmware = replicate 8 0; model = replicate 40 0 }

-- no security
abbrev pub zero_security : Security
zero_security = record { lock = Open; enabled = false; maximum = false; attempts = 0; prepared = false }

-- no disk
abbrev pub zero_geometry : Geometry
zero_geometry = record { cylinders = 0; heads = 0; sectors = 0 }

-- the settled part of a new disk: "security not enabled, level High"
abbrev pub fresh_settled : Geometry → Identity → Settled
fresh_settled g i = record { geometry = g; translation = factory_of g; identity = i; security = zero_security }

-- the settled part of a record all zero
abbrev pub zero_settled : Settled
zero_settled = fresh_settled zero_geometry zero_identity
