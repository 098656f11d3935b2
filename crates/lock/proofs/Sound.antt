-- Security settings in shape, said by their bounds; F3h, F5h, the end of a preparation and a reset keep them so.
use mathlib.Core.Bool.{Bool, true, false, not}
use mathlib.Core.Path.{◌≡◌, refl}
use Prim.Native.Nat.{◌≤◌, ◌<◌}
use native.Mathlib.Omega.{arith}
use borrow.Author.Tests.{le-leb, leb-true, ne_eqb, eqb-false}
use lib.Dec.{leb}
use Rattle.base.specs.Choice.{pick}
use Rattle.base.proofs.Tests.{false≢true, both_true}
use Rattle.lock.specs.Lock.{is_open, is_locked, frozen_of, prepared_of, unprepared_of, starting_lock, powered_on, exhausted_of, security_fits}
use Rattle.lock.specs.declared.Lock.TheVariants.{Open, Locked}
use Rattle.lock.specs.declared.Security.{Security}

-- at most five attempts, and locked only with security enabled
pub record Sound (s : Security) : Type 0 where
  pub few : s.attempts ≤ 5
  pub sure : is_locked s.lock ≡ true → s.enabled ≡ true

clauses : (locked enabled few : Bool) → pick locked (pick enabled few false) few ≡ true → (few ≡ true) × (locked ≡ true → enabled ≡ true)
clauses true enabled few e = let q = both_true enabled few e in (q.1, λ l. q.0)
clauses false enabled few e = (e, λ l. absurd (false≢true l))

pub fits_sound : (s : Security) → security_fits s ≡ true → Sound s
unfolding security_fits
fits_sound s e =
    let q = clauses (is_locked s.lock) s.enabled (leb s.attempts 5) e in
    record { few = leb-true _ _ q.0; sure = q.1 }

pub sound_fits : (s : Security) → Sound s → security_fits s ≡ true
unfolding security_fits
sound_fits s k = go (is_locked s.lock) refl
  where
    go : (b : Bool) → is_locked s.lock ≡ b → security_fits s ≡ true
    go true h = simp (h, k.sure h, le-leb s.attempts 5 k.few)
    go false h = simp (h, le-leb s.attempts 5 k.few)

-- F5h, F3h, and the end of a preparation
pub freeze_sound : (s : Security) → Sound s → Sound (frozen_of s)
freeze_sound s k = record { few = k.few; sure = λ l. absurd (false≢true l) }

pub prepare_sound : (s : Security) → Sound s → Sound (prepared_of s)
prepare_sound s k = record { few = k.few; sure = k.sure }

pub unprepare_sound : (s : Security) → Sound s → Sound (unprepared_of s)
unprepare_sound s k = record { few = k.few; sure = k.sure }

-- what power-on and hardware reset leave: five attempts, no preparation, locked exactly if security is enabled, else open; level and mark stay
pub record PoweredOn (s t : Security) : Type 0 where
  pub five : t.attempts ≡ 5
  pub unprepared : t.prepared ≡ false
  pub enabled : t.enabled ≡ s.enabled
  pub maximum : t.maximum ≡ s.maximum
  pub locked : is_locked t.lock ≡ s.enabled
  pub else_open : is_open t.lock ≡ not s.enabled

pub power_on_leaves : (s : Security) → PoweredOn s (powered_on s)
unfolding starting_lock
power_on_leaves s =
    record { five = refl; unprepared = refl; enabled = refl; maximum = refl; locked = locks s.enabled; else_open = opens s.enabled }
  where
    locks : (on : Bool) → is_locked (pick on Locked Open) ≡ on
    locks true = refl
    locks false = refl

    opens : (on : Bool) → is_open (pick on Locked Open) ≡ not on
    opens true = refl
    opens false = refl

-- power-on and hardware reset, whatever was before
pub power_on_sound : (s : Security) → Sound (powered_on s)
unfolding starting_lock
power_on_sound s = record { few = omega arith; sure = go s.enabled refl }
  where
    go : (b : Bool) → s.enabled ≡ b → is_locked (powered_on s).lock ≡ true → s.enabled ≡ true
    go true e l = e
    go false e l = absurd (false≢true (rw e at l))

-- attempts are left, or none is
pub attempts_left : (s : Security) → 0 < s.attempts → exhausted_of s ≡ false
unfolding exhausted_of
attempts_left s h = ne_eqb s.attempts 0 some
  where
    some : s.attempts ≡ 0 → ⊥
    some q = omega arith

pub left_attempts : (s : Security) → exhausted_of s ≡ false → 0 < s.attempts
unfolding exhausted_of
left_attempts s e = some (eqb-false s.attempts 0 e)
  where
    some : (s.attempts ≡ 0 → ⊥) → 0 < s.attempts
    some k = omega arith
