-- What word 0 of a password block picks, when the block matches, and other passwords stored (document 01, "The lock").
use Rattle.std.specs.Prelude.{ℕ, ◌/◌, ◌%◌, Bool, List, eqb}
use Rattle.base.specs.Choice.{pick}
use Rattle.block.specs.Words.{word_at}
use Rattle.block.specs.Passwords.{password_of, same}
use Rattle.lock.specs.declared.Secrets.{Secrets}

-- the passwords with another user password
abbrev pub with_user : Secrets → List ℕ → Secrets
with_user x p = record { user = p; master = x.master }

-- the passwords with another master password
abbrev pub with_master : Secrets → List ℕ → Secrets
with_master x p = record { user = x.user; master = p }

-- "word 0 bit 0 picks user (0) or master (1)"
unfoldable pub master_picked : List ℕ → Bool
master_picked b = eqb (word_at b 0 % 2) 1

-- word 0 "bit 8 the level for F1h"
unfoldable pub maximum_asked : List ℕ → Bool
maximum_asked b = eqb (word_at b 0 / 256 % 2) 1

-- the stored password that the block picks
unfoldable pub picked_of : Secrets → List ℕ → List ℕ
picked_of x b = pick (master_picked b) x.master x.user

-- a match: the block's password is the picked one
unfoldable pub matches_of : Secrets → List ℕ → Bool
matches_of x b = same (password_of b) (picked_of x b)
