-- A property of the settled part outlasts every action, if a new translation, the preparation, a freeze, power-on and a judged password block each keep it: nothing else touches that part.
use mathlib.Core.Bool.{false}
use mathlib.Core.Path.{◌≡◌}
use mathlib.Core.List.{List, []}
use Prim.Native.Nat.{ℕ}
use Rattle.geometry.specs.declared.Translation.{Translation}
use Rattle.lock.specs.Lock.{is_locked, frozen_of, prepared_of, unprepared_of}
use Rattle.lock.specs.declared.Secrets.{Secrets}
use Rattle.lock.specs.declared.Purpose.{Purpose}
use Rattle.judging.specs.Judging.{judge_of}
use Rattle.settled.specs.Settled.{with_translation, with_security, settled_powered_on}
use Rattle.settled.specs.declared.Settled.{Settled}
use Rattle.face.specs.declared.PasswordBlock.{PasswordBlock}
use Rattle.face.specs.declared.Transfer.{Transfer}
use Rattle.face.specs.declared.Transfer.TheVariants.{TakingPassword}
use Rattle.face.specs.declared.Face.{Face}
use Rattle.face.specs.declared.Action.{Action}
use Rattle.resets.specs.Resets.{dropped_of}
use Rattle.reading.specs.Words.{read_word_as}
use Rattle.password.specs.Passwords.{password_word}
use Rattle.disk.specs.Actions.{write_register_of, write_word_as, act_of}
use Rattle.laws.proofs.Lasting.{Lasts, drop_lasts, write_register_lasts, read_word_lasts, write_word_lasts, act_lasts}

-- a property of the settled part that each change of it keeps, but for power-on and judged password blocks
pub record Closed (P : Settled → Type 0) : Type 0 where
  pub translation : (s : Settled) (t : Translation) → P s → P (with_translation s t)
  pub prepared : (s : Settled) → P s → P (with_security s (prepared_of s.security))
  pub unprepared : (s : Settled) → P s → P (with_security s (unprepared_of s.security))
  pub frozen : (s : Settled) → is_locked s.security.lock ≡ false → P s → P (with_security s (frozen_of s.security))

-- said of faces
lasts : {P : Settled → Type 0} → Closed P → (m : List ℕ) → Lasts m (λ (f : Face). P f.settled)
lasts c m =
    record {
      hot = λ f h p. p;
      made = λ f n h t e p. c.translation f.settled t p;
      factory = λ f p. c.translation f.settled _ p;
      prepared = λ f p. c.prepared f.settled p;
      unprepared = λ f p. c.unprepared f.settled p;
      frozen = λ f l p. c.frozen f.settled l p;
      zeroed = λ f p. p;
      sector = λ f at x e p. p;
      identified = λ f p. p;
      word = λ f n w p. p;
    }

pub drop_settles : {P : Settled → Type 0} → Closed P → (f : Face) → P f.settled → P (dropped_of f).settled
drop_settles c f p = drop_lasts (lasts c []) f p

pub write_register_settles : {P : Settled → Type 0} → Closed P → (f : Face) (m : List ℕ) (n v : ℕ) → P f.settled → P (write_register_of f m n v).left.settled
write_register_settles c f m n v p = write_register_lasts (lasts c m) f n v p

pub read_word_settles : {P : Settled → Type 0} → Closed P → (f : Face) (m : List ℕ) (t : Transfer) → P f.settled → P (read_word_as f m t).left.settled
read_word_settles c f m t p = read_word_lasts (lasts c m) f t p

pub write_word_settles : {P : Settled → Type 0} → Closed P → (f : Face) (x : Secrets) (m : List ℕ) (w : ℕ) (t : Transfer)
    → ((b : PasswordBlock) → t ≡ TakingPassword b → P (password_word f x b w).face.settled) → P f.settled → P (write_word_as f x m w t).acted.face.settled
write_word_settles c f x m w t h p = write_word_lasts (lasts c m) f x w t h p

pub act_settles : {P : Settled → Type 0} → Closed P → (f : Face) (x : Secrets) (m : List ℕ) (a : Action) → P (settled_powered_on f.settled)
    → ((u : Purpose) (b : List ℕ) → P (with_security f.settled (judge_of u f.settled.security x b).security)) → P f.settled → P (act_of f x m a).acted.face.settled
act_settles c f x m a o h p = act_lasts (lasts c m) f x a o h p
