-- The fast path takes a password block's words but the last as the word-by-word definition does, for every disk.
use mathlib.Core.Path.{◌≡◌}
use mathlib.Core.List.{List}
use Prim.Native.Nat.{ℕ}
use lib.Dec.{ltb}
use Rattle.std.specs.Prelude.{Option, Some, None}
use Rattle.base.proofs.Tests.{either_way}
use Rattle.lock.specs.declared.Secrets.{Secrets}
use Rattle.face.specs.declared.Hot.{Hot}
use Rattle.face.specs.declared.Shows.{Shows}
use Rattle.face.specs.Face.{with_buffer}
use Rattle.fastpath.specs.Quick.{quick_write_of, quick_write_buffer}
use Rattle.face.specs.declared.Face.{Face}
use Rattle.face.specs.declared.PasswordBlock.{PasswordBlock}
use Rattle.face.specs.declared.Transfer.TheVariants.{TakingPassword}
use Rattle.effects.specs.Effects.{Effect, effect, seen_acted}
use Rattle.password.specs.Passwords.{password_word, password_word_sectors}

-- what the fast path settled, put in place; else what the long way gives
abbrev pub quick_then : Face → Secrets → List ℕ → List ℕ → Option (Shows Hot) → Effect → Effect
quick_then f x m b (Some s) slow = effect (seen_acted (with_buffer f b) x s) m
quick_then f x m b None slow = slow

-- a word of a password block written by the fast path where it settles it
abbrev TakenQuickly : Face → Secrets → List ℕ → ℕ → PasswordBlock → Type 0
TakenQuickly f x m w p =
    effect (password_word f x p w) (password_word_sectors f x m p w)
    ≡ quick_then f x m (quick_write_buffer f.buffer w (TakingPassword p)) (quick_write_of f.hot (TakingPassword p)) (effect (password_word f x p w) (password_word_sectors f x m p w))

pub quick_password : (f : Face) (x : Secrets) (m : List ℕ) (w : ℕ) (p : PasswordBlock) → TakenQuickly f x m w p
unfolding quick_write_of quick_write_buffer password_word password_word_sectors
quick_password f x m w p = either_way (ltb p.word 255) (λ e. simp e) (λ e. simp e)
