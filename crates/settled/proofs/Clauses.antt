-- The settled part in shape, clause by clause.
use mathlib.Core.Bool.{true}
use mathlib.Core.Path.{◌≡◌}
use Rattle.base.proofs.Tests.{both_true}
use Rattle.geometry.specs.Geometry.{geometry_fits}
use Rattle.geometry.specs.Translation.{translation_allowed}
use Rattle.lock.specs.Lock.{security_fits}
use Rattle.settled.specs.Identity.{identity_fits}
use Rattle.settled.specs.Settled.{settled_fits}
use Rattle.settled.specs.declared.Settled.{Settled}

pub record Settling (s : Settled) : Type 0 where
  pub geometry : geometry_fits s.geometry ≡ true
  pub identity : identity_fits s.identity ≡ true
  pub translation : translation_allowed s.geometry s.translation ≡ true
  pub security : security_fits s.security ≡ true

pub settled_clauses : (s : Settled) → settled_fits s ≡ true → Settling s
unfolding settled_fits
settled_clauses s e =
    let a = both_true (geometry_fits s.geometry) _ e in
    let b = both_true (identity_fits s.identity) _ a.1 in
    let c = both_true (translation_allowed s.geometry s.translation) _ b.1 in
    record { geometry = a.0; identity = b.0; translation = c.0; security = c.1 }

pub clauses_settled : (s : Settled) → Settling s → settled_fits s ≡ true
unfolding settled_fits
clauses_settled s k = simp (k.geometry, k.identity, k.translation, k.security)
