-- What commands seldom touch: its limits, and what resets leave of it (document 01, "The disk and its three lives").
use Rattle.std.specs.Prelude.{Bool, false}
use Rattle.base.specs.Choice.{pick}
use Rattle.geometry.specs.Geometry.{geometry_fits}
use Rattle.geometry.specs.Translation.{factory_of, translation_allowed}
use Rattle.geometry.specs.declared.Translation.{Translation}
use Rattle.lock.specs.Lock.{security_fits, powered_on, unprepared_of}
use Rattle.lock.specs.declared.Security.{Security}
use Rattle.settled.specs.Identity.{identity_fits}
use Rattle.settled.specs.declared.Settled.{Settled}

-- with another translation
abbrev pub with_translation : Settled → Translation → Settled
with_translation s t =
    record { geometry = s.geometry; translation = t; identity = s.identity; security = s.security }

-- with other security settings
abbrev pub with_security : Settled → Security → Settled
with_security s x =
    record { geometry = s.geometry; translation = s.translation; identity = s.identity; security = x }

-- answer 2: "geometry or identity outside the limits; translation not one that 91h allows", and the security settings' clauses
unfoldable pub settled_fits : Settled → Bool
settled_fits s =
    pick (geometry_fits s.geometry)
    (pick (identity_fits s.identity)
    (pick (translation_allowed s.geometry s.translation) (security_fits s.security) false)
    false)
    false

-- the preparation ended
abbrev pub settled_unprepared : Settled → Settled
settled_unprepared s = with_security s (unprepared_of s.security)

-- power-on and hardware reset: "factory translation", and what they make of the security settings
abbrev pub settled_powered_on : Settled → Settled
settled_powered_on s = with_security (with_translation s (factory_of s.geometry)) (powered_on s.security)

-- setting SRST: "factory translation .. clears .. preparation; it touches neither lock state nor attempts"
abbrev pub settled_reset : Settled → Settled
settled_reset s = settled_unprepared (with_translation s (factory_of s.geometry))
