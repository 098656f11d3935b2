-- An answer other than 0 comes with value 0 and changes nothing; setup is refused exactly outside the limits.
use mathlib.Core.Bool.{Bool, true, false}
use mathlib.Core.Path.{◌≡◌, refl, ap, ◌∙◌}
use mathlib.Core.Logic.{◌⊎◌, inl, inr}
use mathlib.Core.List.{List}
use Prim.Native.Nat.{ℕ}
use lib.Dec.{eqb, ltb}
use lib.ListN.{length}
use Rattle.base.proofs.Tests.{pick_both, either_way}
use Rattle.base.specs.Choice.{within}
use Rattle.geometry.specs.Geometry.{geometry_fits, geometry_of, checked_of}
use Rattle.geometry.proofs.Limits.{Limits, fits_limits, limits_fit}
use Rattle.lock.specs.declared.Secrets.{Secrets}
use Rattle.settled.specs.Identity.{identity_fits}
use Rattle.settled.specs.declared.Identity.{Identity}
use Rattle.face.specs.Face.{with_hot}
use Rattle.face.specs.Reads.{number_of, seen, read_register, value_of}
use Rattle.face.specs.declared.Hot.{Hot}
use Rattle.face.specs.declared.Face.{Face}
use Rattle.face.specs.declared.Shows.{Shows}
use Rattle.face.specs.declared.Transfer.{Transfer}
use Rattle.face.specs.declared.Transfer.TheVariants.{Idle, Reading, Writing, ReadingBuffer, WritingBuffer, TakingPassword}
use Rattle.face.specs.declared.Answer.{Answer}
use Rattle.face.specs.declared.Answer.TheVariants.{Done, NoRegister, OutOfShape, WrongLength}
use Rattle.face.specs.declared.Action.{Action}
use Rattle.face.specs.declared.Action.TheVariants.{ReadRegister, WriteRegister, ReadWord, WriteWord, HardwareReset, PowerOn, Line}
use Rattle.transfers.specs.Words.{told, no_transfer}
use Rattle.reading.specs.Words.{read_word_as, read_word_of}
use Rattle.password.specs.Passwords.{password_last, password_word}
use Rattle.effects.specs.Effects.{Effect}
use Rattle.disk.specs.Actions.{word_refused, write_register_of, write_word_as, write_word_of, act_of}
use Rattle.effects.specs.declared.Acted.{Acted}
use Rattle.device.specs.Alone.{Step, device_of, outcome, shown, acted_of, alone_of}
use Rattle.fastpath.specs.Dev.{ignored_of}
use Rattle.device.specs.Host.{shaped_of, memory_length, step_of}
use Rattle.device.specs.Setup.{fresh_of, setup_refused, setup_of}
use Rattle.device.specs.declared.Device.{Device}
use Rattle.device.specs.declared.Outcome.{Outcome}
use Rattle.laws.proofs.Reached.{Call, reached, reached_shaped, fresh_shaped}

-- value 0, the same device, the same sectors
pub record Unchanged (d : Device) (m : List ℕ) (s : Step) : Type 0 where
  pub value : s.outcome.value ≡ 0
  pub device : s.outcome.device ≡ d
  pub sectors : s.sectors ≡ m

read_answer : (h : Hot) (n : ℕ) → ((read_register h n).answer ≡ Done) ⊎ (read_register h n ≡ seen h NoRegister 0)
unfolding read_register
read_answer h n =
    pick_both P (eqb n 1) _ _ (inl refl) (pick_both P (eqb n 2) _ _ (inl refl) (pick_both P (eqb n 3) _ _ (inl refl) (pick_both P (eqb n 4) _ _ (inl refl)
    (pick_both P (eqb n 5) _ _ (inl refl) (pick_both P (eqb n 6) _ _ (inl refl) (pick_both P (eqb n 7) _ _ (inl refl) (pick_both P (eqb n 8) _ _ (inl refl) (inr refl))))))))
  where
    P : Shows Hot → Type 0
    P s = (s.answer ≡ Done) ⊎ (s ≡ seen h NoRegister 0)

write_answer : (f : Face) (m : List ℕ) (n v : ℕ) → ((write_register_of f m n v).answer ≡ Done) ⊎ (write_register_of f m n v ≡ told f NoRegister 0)
unfolding write_register_of
write_answer f m n v = pick_both P (within 1 6 n) _ _ (inl refl) (pick_both P (eqb n 7) _ _ (inl refl) (pick_both P (eqb n 8) _ _ (inl refl) (inr refl)))
  where
    P : Shows Face → Type 0
    P t = (t.answer ≡ Done) ⊎ (t ≡ told f NoRegister 0)

pub read_word_answer : (f : Face) (m : List ℕ) (t : Transfer) → ((read_word_as f m t).answer ≡ Done) ⊎ (read_word_as f m t ≡ no_transfer f)
read_word_answer f m Idle = inr refl
read_word_answer f m (Reading r) = inl refl
read_word_answer f m (Writing r) = inr refl
read_word_answer f m (ReadingBuffer n) = inl refl
read_word_answer f m (WritingBuffer n) = inr refl
read_word_answer f m (TakingPassword b) = inr refl

pub write_word_answer : (f : Face) (x : Secrets) (m : List ℕ) (w : ℕ) (t : Transfer) → ((write_word_as f x m w t).acted.answer ≡ Done) ⊎ (write_word_as f x m w t ≡ word_refused f x m)
unfolding password_word password_last
write_word_answer f x m w Idle = inr refl
write_word_answer f x m w (Reading r) = inr refl
write_word_answer f x m w (Writing r) = inl refl
write_word_answer f x m w (ReadingBuffer n) = inr refl
write_word_answer f x m w (WritingBuffer n) = inl refl
write_word_answer f x m w (TakingPassword b) = inl (pick_both (λ (a : Acted). a.answer ≡ Done) (ltb b.word 255) _ _ refl refl)

-- an action on a disk, seen from the device
abbrev Honest : Device → List ℕ → Step → Type 0
Honest d m s = (s.outcome.number ≡ 0) ⊎ Unchanged d m s

act_honest : (d : Device) (m : List ℕ) (a : Action) → Honest d m (acted_of d m a)
unfolding act_of read_word_of write_word_of
act_honest d m (ReadRegister n) = go (read_answer d.face.hot n)
  where
    go : ((read_register d.face.hot n).answer ≡ Done) ⊎ (read_register d.face.hot n ≡ seen d.face.hot NoRegister 0) → Honest d m (acted_of d m (ReadRegister n))
    go (inl e) = inl (ap number_of e)
    go (inr e) =
        inr record { value = ap (λ (s : Shows Hot). value_of s.answer s.value) e; device = ap (λ (s : Shows Hot). device_of (with_hot d.face s.left) d.secrets) e; sectors = refl }
act_honest d m (WriteRegister n v) = go (write_answer d.face m n v)
  where
    go : ((write_register_of d.face m n v).answer ≡ Done) ⊎ (write_register_of d.face m n v ≡ told d.face NoRegister 0) → Honest d m (acted_of d m (WriteRegister n v))
    go (inl e) = inl (ap number_of e)
    go (inr e) = inr record { value = ap (λ (s : Shows Face). value_of s.answer s.value) e; device = ap (λ (s : Shows Face). device_of s.left d.secrets) e; sectors = refl }
act_honest d m ReadWord = go (read_word_answer d.face m d.face.hot.transfer)
  where
    go : ((read_word_as d.face m d.face.hot.transfer).answer ≡ Done) ⊎ (read_word_as d.face m d.face.hot.transfer ≡ no_transfer d.face) → Honest d m (acted_of d m ReadWord)
    go (inl e) = inl (ap number_of e)
    go (inr e) = inr record { value = ap (λ (s : Shows Face). value_of s.answer s.value) e; device = ap (λ (s : Shows Face). device_of s.left d.secrets) e; sectors = refl }
act_honest d m (WriteWord w) = go (write_word_answer d.face d.secrets m w d.face.hot.transfer)
  where
    go : ((write_word_as d.face d.secrets m w d.face.hot.transfer).acted.answer ≡ Done) ⊎ (write_word_as d.face d.secrets m w d.face.hot.transfer ≡ word_refused d.face d.secrets m)
        → Honest d m (acted_of d m (WriteWord w))
    go (inl e) = inl (ap number_of e)
    go (inr e) =
        inr record {
          value = ap (λ (s : Effect). value_of s.acted.answer s.acted.value) e;
          device = ap (λ (s : Effect). device_of s.acted.face s.acted.secrets) e;
          sectors = ap (λ (s : Effect). s.sectors) e;
        }
act_honest d m HardwareReset = inl refl
act_honest d m PowerOn = inl refl
act_honest d m Line = inl refl

-- every action answers 0, or gives 0 and changes nothing
pub alone_honest : (d : Device) (m : List ℕ) (a : Action) → ((alone_of d m a).outcome.number ≡ 0) ⊎ Unchanged d m (alone_of d m a)
unfolding alone_of
alone_honest d m a = pick_both (λ (s : Step). Honest d m s) (ignored_of d.face.hot a) _ _ (inl refl) (act_honest d m a)

-- and so does every call of the host
pub step_honest : (d : Device) (m : List ℕ) (a : Action) → ((step_of d m a).outcome.number ≡ 0) ⊎ Unchanged d m (step_of d m a)
unfolding step_of
step_honest d m a =
    pick_both P (shaped_of d) _ _
    (pick_both P (eqb (length m) (memory_length d)) _ _ (alone_honest d m a) (still WrongLength refl))
    (still OutOfShape refl)
  where
    still : (x : Answer) → value_of x 0 ≡ 0 → Honest d m (shown d m x 0)
    still x e = inr record { value = e; device = refl; sectors = refl }

    P : Step → Type 0
    P s = Honest d m s

-- setup makes just the disk asked for, where counts and identity are within the limits
pub setup_within : (c h s : ℕ) (i : Identity) (p : List ℕ) → Limits c h s → identity_fits i ≡ true → setup_of c h s i p ≡ outcome (fresh_of (geometry_of c h s) i p) Done 0
unfolding setup_of checked_of
setup_within c h s i p l e = simp (limits_fit (geometry_of c h s) l, e)

-- and is refused where the counts are not
pub setup_outside : (c h s : ℕ) (i : Identity) (p : List ℕ) → (Limits c h s → ⊥) → setup_of c h s i p ≡ setup_refused
unfolding setup_of checked_of
setup_outside c h s i p l =
    either_way (geometry_fits (geometry_of c h s))
    (λ e. absurd (l (fits_limits (geometry_of c h s) e)))
    (λ e. simp e)

-- or the identity is not
pub setup_unprintable : (c h s : ℕ) (i : Identity) (p : List ℕ) → identity_fits i ≡ false → setup_of c h s i p ≡ setup_refused
unfolding setup_of checked_of
setup_unprintable c h s i p e = go (geometry_fits (geometry_of c h s)) refl
  where
    go : (b : Bool) → geometry_fits (geometry_of c h s) ≡ b → setup_of c h s i p ≡ setup_refused
    go true k = simp (k, e)
    go false k = simp k

-- a disk that setup made is in shape, and so is every state reached from it
pub from_setup_shaped : (c h s : ℕ) (i : Identity) (p : List ℕ) (cs : List Call) → Limits c h s → identity_fits i ≡ true → shaped_of (reached (setup_of c h s i p).device cs) ≡ true
from_setup_shaped c h s i p cs l e =
    reached_shaped _ cs (ap (λ (o : Outcome). shaped_of o.device) (setup_within c h s i p l e) ∙ fresh_shaped (geometry_of c h s) i p (limits_fit (geometry_of c h s) l) e)
