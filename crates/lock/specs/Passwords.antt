-- The two stored passwords of a new disk (document 01, "The lock").
use Rattle.std.specs.Prelude.{ℕ, List, replicate}
use Rattle.lock.specs.declared.Secrets.{Secrets}

-- "The user password starts as 32 zeros"
unfoldable pub zero_password : List ℕ
zero_password = replicate 32 0

-- a new disk: "The user password starts as 32 zeros", and the master password is setup's
abbrev pub fresh_secrets : List ℕ → Secrets
fresh_secrets p = record { user = zero_password; master = p }
