-- A locked device in shape that is sent no block that it accepts does what the guest's step says, and keeps its passwords and sectors.
use mathlib.Core.Path.{◌≡◌, refl, sym, ap, ◌∙◌}
use mathlib.Core.Bool.{Bool, true, false}
use mathlib.Core.List.{List, []}
use Prim.Native.Nat.{ℕ}
use lib.Dec.{ltb}
use Rattle.base.specs.Choice.{pick}
use Rattle.base.proofs.Tests.{false≢true, either_way}
use Rattle.lock.specs.Lock.{is_open, is_locked, is_frozen}
use Rattle.lock.specs.declared.Lock.{Lock}
use Rattle.lock.specs.declared.Lock.TheVariants.{Open, Locked, Frozen}
use Rattle.lock.specs.declared.Security.{Security}
use Rattle.lock.specs.declared.Secrets.{Secrets}
use Rattle.lock.specs.declared.Purpose.{Purpose}
use Rattle.lock.specs.declared.Purpose.TheVariants.{Set, Unlock, Erase, Disable}
use Rattle.judging.specs.Passwords.{matches_of}
use Rattle.judging.specs.Judging.{judged, master_at_maximum, unlock_locked, unlock_of, accepts_of, erase_of, judge_of}
use Rattle.judging.specs.declared.Judged.{Judged}
use Rattle.judging.specs.declared.Verdict.TheVariants.{Aborts}
use Rattle.codes.specs.Commands.{decode_of}
use Rattle.codes.specs.MayRun.{runs_in, may_run_of, barred_of}
use Rattle.codes.specs.declared.Command.{Command}
use Rattle.codes.specs.declared.Command.TheVariants.{Unknown, Recalibrate, ReadSectors, WriteSectors, VerifySectors, Seek, ExecuteDiagnostic, InitializeParameters, ReadBuffer, WriteBuffer, IdentifyDevice, SecuritySetPassword, SecurityUnlock, SecurityErasePrepare, SecurityEraseUnit, SecurityFreezeLock, SecurityDisablePassword}
use Rattle.face.specs.declared.PasswordBlock.{PasswordBlock}
use Rattle.face.specs.declared.Transfer.{Transfer}
use Rattle.face.specs.declared.Transfer.TheVariants.{Idle, Reading, Writing, ReadingBuffer, WritingBuffer, TakingPassword}
use Rattle.face.specs.declared.Face.{Face}
use Rattle.face.specs.declared.Action.{Action}
use Rattle.face.specs.declared.Action.TheVariants.{ReadRegister, WriteRegister, ReadWord, WriteWord, HardwareReset, PowerOn, Line}
use Rattle.face.specs.declared.Answer.TheVariants.{Done}
use Rattle.fastpath.specs.Dev.{ignored_of}
use Rattle.transfers.specs.Words.{told, word_in}
use Rattle.face.specs.declared.Shows.{Shows}
use Rattle.reading.specs.Words.{read_word_as, read_word_of}
use Rattle.commands.specs.Gate.{begun_of, abort_at_once, run_of, stations_of, command_of}
use Rattle.shape.specs.Shape.{run_fits, password_fits, transfer_fits}
use Rattle.effects.specs.Effects.{acted, effect}
use Rattle.password.specs.Passwords.{password_last, password_last_sectors, password_word, password_word_sectors, judged_acted, sectors_as}
use Rattle.disk.specs.Actions.{told_acted, write_register_of, write_word_as, write_word_of, act_of}
use Rattle.device.specs.Alone.{shown, step_as, acted_of, Step, alone_of}
use Rattle.device.specs.Host.{Ready, step_of}
use Rattle.device.specs.declared.Device.{Device}
use Rattle.laws.proofs.Shape.{not_locked_open}
use Rattle.laws.proofs.Settling.{drop_settles}
use Rattle.laws.proofs.Steps.{ready_fits, ready_step}
use Rattle.room.specs.Blocks.{completed_as, completed_of, unlock_accepts, erase_accepts, block_accepted, accepted_of}
use Rattle.room.specs.Guest.{refused_security, refused_last, guest_password, guest_word, guest_act, guest_step}
use Rattle.room.specs.Claims.{security_in}
use Rattle.room.proofs.Kept.{LockedIn, locked_closed}

-- ---- commands: locked, none looks at the sectors

run_guest : (f : Face) (m : List ℕ) (k : Command) → LockedIn f.settled → runs_in k f.settled.security.lock ≡ true → run_of f m k ≡ run_of f [] k
run_guest f m Unknown h e = refl
run_guest f m Recalibrate h e = refl
run_guest f m ReadSectors h e = absurd (false≢true (sym (not_locked_open f.settled.security.lock e) ∙ h))
run_guest f m WriteSectors h e = refl
run_guest f m VerifySectors h e = refl
run_guest f m Seek h e = refl
run_guest f m ExecuteDiagnostic h e = refl
run_guest f m InitializeParameters h e = refl
run_guest f m ReadBuffer h e = refl
run_guest f m WriteBuffer h e = refl
run_guest f m IdentifyDevice h e = refl
run_guest f m SecuritySetPassword h e = refl
run_guest f m SecurityUnlock h e = refl
run_guest f m SecurityErasePrepare h e = refl
run_guest f m SecurityEraseUnit h e = refl
run_guest f m SecurityFreezeLock h e = refl
run_guest f m SecurityDisablePassword h e = refl

stations_guest : (f : Face) (m : List ℕ) (code : ℕ) → LockedIn f.settled → stations_of f m code ≡ stations_of f [] code
unfolding stations_of may_run_of
stations_guest f m code h =
    either_way (runs_in (decode_of code) f.settled.security.lock)
    (λ e. ap (λ (g : Face). pick (may_run_of code f.settled.security.lock) (pick (barred_of (decode_of code) f.settled.security) (abort_at_once f code) g) (abort_at_once f code)) (run_guest f m (decode_of code) h e))
    (λ e. simp e)

-- ---- data words

read_guest : (f : Face) (m : List ℕ) (t : Transfer) → LockedIn f.settled → transfer_fits f.settled t ≡ true → read_word_as f m t ≡ read_word_as f [] t
unfolding run_fits
read_guest f m Idle h e = refl
read_guest f m (Reading r) h e = absurd (false≢true (simp h at e))
read_guest f m (Writing r) h e = refl
read_guest f m (ReadingBuffer n) h e = refl
read_guest f m (WritingBuffer n) h e = refl
read_guest f m (TakingPassword b) h e = refl

-- locked, no SET or DISABLE PASSWORD block is open
not_open : (l : Lock) → is_locked l ≡ true → pick (is_frozen l) false (is_open l) ≡ true → ⊥
not_open Open h e = false≢true h
not_open Locked h e = false≢true e
not_open Frozen h e = false≢true h

-- a whole block that is not accepted is refused
judge_guest : (s : Security) (x : Secrets) (p : Purpose) (b : List ℕ) → is_locked s.lock ≡ true → password_fits s p ≡ true → block_accepted s x p b ≡ false
    → judge_of p s x b ≡ judged (refused_security s b p) x Aborts
unfolding judge_of unlock_of unlock_locked erase_of password_fits unlock_accepts erase_accepts
judge_guest s x Set b h k e = absurd (not_open s.lock h k)
judge_guest s x Unlock b h k e = either_way (master_at_maximum s b) (λ q. simp (h, q)) (λ q. simp (h, q, matched q))
  where
    matched : master_at_maximum s b ≡ false → matches_of x b ≡ false
    matched q = simp (h, q) at e
judge_guest s x Erase b h k e = simp (refused)
  where
    refused : accepts_of s x b ≡ false
    refused = simp h at e
judge_guest s x Disable b h k e = absurd (not_open s.lock h k)

-- what such a block leaves
last_guest : (f : Face) (x : Secrets) (p : Purpose) → LockedIn f.settled → password_fits f.settled.security p ≡ true
    → block_accepted f.settled.security x p f.buffer ≡ false → password_last f x p ≡ acted (refused_last f p) x Done 0
unfolding password_last refused_last
last_guest f x p h k e = ap (judged_acted f) (judge_guest f.settled.security x p f.buffer h k e)

last_keeps : (f : Face) (x : Secrets) (m : List ℕ) (p : Purpose) → LockedIn f.settled → password_fits f.settled.security p ≡ true
    → block_accepted f.settled.security x p f.buffer ≡ false → password_last_sectors f x m p ≡ m
unfolding password_last_sectors
last_keeps f x m p h k e = ap (λ (j : Judged). sectors_as m j.verdict) (judge_guest f.settled.security x p f.buffer h k e)

password_guest : (f : Face) (x : Secrets) (m : List ℕ) (b : PasswordBlock) (w : ℕ) → LockedIn f.settled → password_fits f.settled.security b.purpose ≡ true
    → completed_as (block_accepted f.settled.security x) f w (TakingPassword b) ≡ false
    → effect (password_word f x b w) (password_word_sectors f x m b w) ≡ effect (told_acted x (told (guest_password f b w) Done 0)) m
unfolding password_word password_word_sectors guest_password
password_guest f x m b w h k e =
    either_way (ltb b.word 255)
    (λ q. simp q)
    (λ q. let g = word_in f b.word w in let a : block_accepted f.settled.security x b.purpose g.buffer ≡ false = sym (ap (λ (t : Bool). pick t false (block_accepted f.settled.security x b.purpose g.buffer)) q) ∙ e in
    simp (q, last_guest g x b.purpose h k a, last_keeps g x m b.purpose h k a))

write_guest : (f : Face) (x : Secrets) (m : List ℕ) (w : ℕ) (t : Transfer) → LockedIn f.settled → transfer_fits f.settled t ≡ true
    → completed_as (block_accepted f.settled.security x) f w t ≡ false → write_word_as f x m w t ≡ effect (told_acted x (guest_word f w t)) m
unfolding run_fits
write_guest f x m w Idle h k e = refl
write_guest f x m w (Reading r) h k e = refl
write_guest f x m w (Writing r) h k e = absurd (false≢true (simp h at k))
write_guest f x m w (ReadingBuffer n) h k e = refl
write_guest f x m w (WritingBuffer n) h k e = refl
write_guest f x m w (TakingPassword b) h k e = password_guest f x m b w h k e

-- ---- any action

command_guest : (f : Face) (m : List ℕ) (code : ℕ) → LockedIn f.settled → command_of f m code ≡ command_of f [] code
unfolding command_of begun_of
command_guest f m code h = ap (λ (g : Face). pick f.hot.signals.held f g) (stations_guest (begun_of f) m code (drop_settles locked_closed f h))

register_guest : (f : Face) (m : List ℕ) (n v : ℕ) → LockedIn f.settled → write_register_of f m n v ≡ write_register_of f [] n v
unfolding write_register_of
register_guest f m n v h = rw (command_guest f m v h)

act_guest : (f : Face) (x : Secrets) (m : List ℕ) (a : Action) → LockedIn f.settled → transfer_fits f.settled f.hot.transfer ≡ true
    → completed_of (block_accepted f.settled.security x) f a ≡ false → act_of f x m a ≡ effect (told_acted x (guest_act f a)) m
unfolding act_of guest_act completed_of read_word_of write_word_of
act_guest f x m (ReadRegister n) h k e = refl
act_guest f x m (WriteRegister n v) h k e = ap (λ (t : Shows Face). effect (told_acted x t) m) (register_guest f m n v h)
act_guest f x m ReadWord h k e = ap (λ (t : Shows Face). effect (told_acted x t) m) (read_guest f m f.hot.transfer h k)
act_guest f x m (WriteWord w) h k e = write_guest f x m w f.hot.transfer h k e
act_guest f x m HardwareReset h k e = refl
act_guest f x m PowerOn h k e = refl
act_guest f x m Line h k e = refl

-- what the guest's step leaves of a device and its sectors
abbrev pub guest_leaves : Device → List ℕ → Action → Step
guest_leaves d m a = step_as (effect (told_acted d.secrets (guest_step d.face a)) m)

alone_guest : (d : Device) (m : List ℕ) (a : Action) → act_of d.face d.secrets m a ≡ effect (told_acted d.secrets (guest_act d.face a)) m → alone_of d m a ≡ guest_leaves d m a
unfolding alone_of guest_step
alone_guest d m a e = go (ignored_of d.face.hot a)
  where
    go : (b : Bool) → pick b (shown d m Done 0) (acted_of d m a) ≡ step_as (effect (told_acted d.secrets (pick b (told d.face Done 0) (guest_act d.face a))) m)
    go true = refl
    go false = ap step_as e

pub step_guest : (d : Device) (m : List ℕ) (a : Action) → Ready d m → is_locked (security_in d).lock ≡ true → accepted_of d a ≡ false → step_of d m a ≡ guest_leaves d m a
unfolding accepted_of
step_guest d m a k h e =
    ready_step d m a k ∙ alone_guest d m a (act_guest d.face d.secrets m a h (ready_fits d m k).fits e)
