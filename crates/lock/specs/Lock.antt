-- The lock and the security settings beside it (document 01, "The disk and its three lives" and "The lock").
use Rattle.std.specs.Prelude.{ℕ, Bool, true, false, eqb, leb}
use Rattle.base.specs.Choice.{pick}
use Rattle.lock.specs.declared.Lock.{Lock}
use Rattle.lock.specs.declared.Lock.TheVariants.{Open, Locked, Frozen}
use Rattle.lock.specs.declared.Security.{Security}

-- "three lock states: open, locked, frozen"; this one is open
abbrev pub is_open : Lock → Bool
is_open Open = true
is_open Locked = false
is_open Frozen = false

-- locked
abbrev pub is_locked : Lock → Bool
is_locked Open = false
is_locked Locked = true
is_locked Frozen = false

-- frozen
abbrev pub is_frozen : Lock → Bool
is_frozen Open = false
is_frozen Locked = false
is_frozen Frozen = true

-- the settings with another lock state
abbrev pub with_lock : Security → Lock → Security
with_lock s l =
    record { lock = l; enabled = s.enabled; maximum = s.maximum; attempts = s.attempts; prepared = s.prepared }

-- the settings with another number of attempts
abbrev pub with_attempts : Security → ℕ → Security
with_attempts s n =
    record { lock = s.lock; enabled = s.enabled; maximum = s.maximum; attempts = n; prepared = s.prepared }

-- the settings with the preparation made or ended
abbrev pub with_prepared : Security → Bool → Security
with_prepared s p =
    record { lock = s.lock; enabled = s.enabled; maximum = s.maximum; attempts = s.attempts; prepared = p }

-- "F5h freezes"
abbrev pub frozen_of : Security → Security
frozen_of s = with_lock s Frozen

-- "F3h prepares"
abbrev pub prepared_of : Security → Security
prepared_of s = with_prepared s true

-- "preparation lasts until .."
abbrev pub unprepared_of : Security → Security
unprepared_of s = with_prepared s false

-- "locked exactly if security is enabled"
unfoldable pub starting_lock : Bool → Lock
starting_lock enabled = pick enabled Locked Open

-- power-on and hardware reset: "preparation cleared, five attempts, frozen ended, locked exactly if security is enabled"
abbrev pub powered_on : Security → Security
powered_on s = with_lock (with_prepared (with_attempts s 5) false) (starting_lock s.enabled)

-- "no attempts left"
unfoldable pub exhausted_of : Security → Bool
exhausted_of s = eqb s.attempts 0

-- "F4h also aborts without preparation, and F2h and F4h with no attempts left"
unfoldable pub cannot_erase : Security → Bool
cannot_erase s = pick s.prepared (exhausted_of s) true

-- answer 2: "attempts above 5; locked without security enabled"
unfoldable pub security_fits : Security → Bool
security_fits s =
    pick (is_locked s.lock) (pick s.enabled (leb s.attempts 5) false) (leb s.attempts 5)
