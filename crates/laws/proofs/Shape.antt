-- Every action keeps the disk in shape: each command opens only a transfer that its stations allow, and each word goes on with one or ends it.
use Rattle.std.specs.Prelude.{Option, Some, None}
use mathlib.Core.Bool.{Bool, true, false, not}
use mathlib.Core.Path.{◌≡◌, refl, sym, ap, ◌∙◌}
use mathlib.Core.List.{List}
use Prim.Native.Nat.{ℕ, zero, suc}
use lib.Dec.{eqb, ltb}
use Rattle.base.specs.Choice.{pick, within}
use Rattle.base.proofs.Tests.{false≢true, pick_both, pick_each}
use Rattle.geometry.specs.Translation.{initialized_of, translation_allowed}
use Rattle.geometry.specs.declared.Translation.{Translation}
use Rattle.geometry.proofs.Translations.{made_allowed, factory_allowed}
use Rattle.successor.specs.Successor.{successor_of}
use Rattle.address.specs.declared.AddressRegisters.{AddressRegisters}
use Rattle.address.specs.declared.Address.{Address}
use Rattle.address.specs.declared.Address.TheVariants.{Names, Faults}
use Rattle.address.specs.declared.Sector.{Sector}
use Rattle.lock.specs.Lock.{unprepared_of, is_open, is_locked, is_frozen, security_fits}
use Rattle.lock.specs.declared.Lock.{Lock}
use Rattle.lock.specs.declared.Lock.TheVariants.{Open, Locked, Frozen}
use Rattle.lock.specs.declared.Security.{Security}
use Rattle.lock.specs.declared.Secrets.{Secrets}
use Rattle.lock.specs.declared.Purpose.{Purpose}
use Rattle.lock.specs.declared.Purpose.TheVariants.{Set, Unlock, Erase, Disable}
use Rattle.judging.specs.declared.Verdict.{Verdict}
use Rattle.judging.specs.declared.Verdict.TheVariants.{EndsWell, Aborts, Erases}
use Rattle.lock.proofs.Sound.{fits_sound, sound_fits, freeze_sound, prepare_sound, unprepare_sound, power_on_sound}
use Rattle.judging.proofs.Judgements.{judge_sound}
use Rattle.codes.specs.Commands.{decode_of}
use Rattle.codes.specs.MayRun.{not_locked, not_frozen, runs_in, may_run_of, barred_of}
use Rattle.codes.specs.declared.Command.{Command}
use Rattle.codes.specs.declared.Command.TheVariants.{Unknown, Recalibrate, ReadSectors, WriteSectors, VerifySectors, Seek, ExecuteDiagnostic, InitializeParameters, ReadBuffer, WriteBuffer, IdentifyDevice, SecuritySetPassword, SecurityUnlock, SecurityErasePrepare, SecurityEraseUnit, SecurityFreezeLock, SecurityDisablePassword}
use Rattle.settled.specs.Settled.{with_translation, with_security, settled_fits}
use Rattle.settled.specs.declared.Settled.{Settled}
use Rattle.settled.proofs.Clauses.{settled_clauses, clauses_settled}
use Rattle.face.specs.Face.{with_buffer, with_hot, idle_face}
use Rattle.face.specs.Reads.{is_idle, read_register}
use Rattle.face.specs.Writes.{busy_of, store_register, put_register}
use Rattle.resets.specs.Control.{srst_of, nien_of, soft_reset_of, control_of}
use Rattle.block.specs.Sectors.{zero_block}
use Rattle.resets.specs.Resets.{drop_purpose, drop_as, dropped_of, powered_on_face}
use Rattle.face.specs.declared.Run.{Run}
use Rattle.face.specs.declared.Signals.{Signals}
use Rattle.face.specs.declared.PasswordBlock.{PasswordBlock}
use Rattle.face.specs.declared.Transfer.{Transfer}
use Rattle.face.specs.declared.Transfer.TheVariants.{Idle, Reading, Writing, ReadingBuffer, WritingBuffer, TakingPassword}
use Rattle.face.specs.declared.Hot.{Hot}
use Rattle.face.specs.declared.Face.{Face}
use Rattle.face.specs.declared.Action.{Action}
use Rattle.face.specs.declared.Action.TheVariants.{ReadRegister, WriteRegister, ReadWord, WriteWord, HardwareReset, PowerOn, Line}
use Rattle.transfers.specs.Sectors.{located, not_found_of}
use Rattle.reading.specs.Sectors.{read_as, read_at, read_sectors_of, verify_as, verify_last, verify_from, verify_sectors_of}
use Rattle.writing.specs.Sectors.{write_as, write_at, write_sectors_of}
use Rattle.transfers.specs.Words.{read_buffer_word, word_in, write_buffer_word}
use Rattle.reading.specs.Words.{read_next_of, read_run_of, read_word_as, read_word_of}
use Rattle.writing.specs.Words.{want_as, want_at, write_next_of, write_last_as, write_last_of, write_run_of}
use Rattle.commands.specs.Others.{seek_as, seek_of, recalibrate_of, initialize_as, initialize_parameters_of, diagnostic_of, identify_device_of, read_buffer_of, write_buffer_of, take_password_of, erase_prepare_of, freeze_lock_of}
use Rattle.commands.specs.Gate.{begun_of, abort_at_once, run_of, stations_of, command_of}
use Rattle.shape.specs.Shape.{is_named, run_fits, purpose_fits, password_fits, transfer_fits, held_fits}
use Rattle.face.specs.declared.Shows.{Shows}
use Rattle.effects.specs.declared.Acted.{Acted}
use Rattle.password.specs.Passwords.{password_ended, ended_as, judgement_of, password_last, password_word}
use Rattle.shape.proofs.Clauses.{Fits}
use Rattle.disk.specs.Actions.{write_register_of, write_word_as, write_word_of, act_of}

-- with other security settings, themselves in shape
security_kept : (s : Settled) (x : Security) → settled_fits s ≡ true → security_fits x ≡ true → settled_fits (with_security s x) ≡ true
security_kept s x e h =
    let k = settled_clauses s e in
    clauses_settled (with_security s x) record { geometry = k.geometry; identity = k.identity; translation = k.translation; security = h }

-- with another translation that 91h allows
translation_kept : (s : Settled) (t : Translation) → settled_fits s ≡ true → translation_allowed s.geometry t ≡ true → settled_fits (with_translation s t) ≡ true
translation_kept s t e h =
    let k = settled_clauses s e in
    clauses_settled (with_translation s t) record { geometry = k.geometry; identity = k.identity; translation = h; security = k.security }

-- the settled part in shape, and no reset held: what a command or a word finds
record Running (f : Face) : Type 0 where
  sound : settled_fits f.settled ≡ true
  free : f.hot.signals.held ≡ false

-- the disk in shape, and no reset held
pub record Free (f : Face) : Type 0 where
  pub sound : settled_fits f.settled ≡ true
  pub free : f.hot.signals.held ≡ false
  pub fits : transfer_fits f.settled f.hot.transfer ≡ true

free_fits : (f : Face) → Free f → Fits f
unfolding held_fits
free_fits f k = record { sound = k.sound; held = rw k.free; fits = k.fits }

-- ---- sectors reached

not_found_free : (f : Face) (r : Run) → Running f → Free (not_found_of f r)
unfolding not_found_of
not_found_free f r u = record { sound = u.sound; free = u.free; fits = refl }

run_fits_law : (s : Settled) (r : Run) (x : Address) → located s r.at ≡ x → is_named x ≡ true → is_locked s.security.lock ≡ false → run_fits s r ≡ true
unfolding run_fits
run_fits_law s r x e n l = rw l (ap is_named e ∙ n)

-- a sector is reached: its address names it, or faults
pub address_each {ℓ k} : {A : Type ℓ} (P : A → Type k) (g : Address → A) (a : Address) → ((x : Sector) → a ≡ Names x → P (g (Names x))) → P (g Faults) → P (g a)
address_each P g (Names x) named faults = named x refl
address_each P g Faults named faults = faults

read_at_free : (f : Face) (m : List ℕ) (r : Run) → Running f → is_locked f.settled.security.lock ≡ false → Free (read_at f m r)
unfolding read_at
read_at_free f m r u l =
    address_each Free (read_as f m r) (located f.settled r.at) (λ x e. record { sound = u.sound; free = u.free; fits = run_fits_law f.settled r (Names x) e refl l }) (not_found_free f r u)

write_at_free : (f : Face) (r : Run) → Running f → is_locked f.settled.security.lock ≡ false → Free (write_at f r)
unfolding write_at
write_at_free f r u l =
    address_each Free (write_as f r) (located f.settled r.at) (λ x e. record { sound = u.sound; free = u.free; fits = run_fits_law f.settled r (Names x) e refl l }) (not_found_free f r u)

want_at_free : (f : Face) (r : Run) → Running f → is_locked f.settled.security.lock ≡ false → Free (want_at f r)
unfolding want_at
want_at_free f r u l =
    address_each Free (want_as f r) (located f.settled r.at) (λ x e. record { sound = u.sound; free = u.free; fits = run_fits_law f.settled r (Names x) e refl l }) (not_found_free f r u)

verify_as_free : (f : Face) (r : Run) (rest : Face) (a : Address) → Running f → Free rest → Free (verify_as f r rest a)
verify_as_free f r rest (Names x) u k = k
verify_as_free f r rest Faults u k = not_found_free f r u

verify_free : (f : Face) (n : ℕ) (at : AddressRegisters) → Running f → Free (verify_from f n at)
unfolding verify_from verify_last
verify_free f zero at u = verify_as_free f _ _ (located f.settled at) u record { sound = u.sound; free = u.free; fits = refl }
verify_free f (suc k) at u = verify_as_free f _ _ (located f.settled at) u (verify_free f k (successor_of f.settled.translation at) u)

-- ---- commands

seek_free : (f : Face) (a : Address) → Running f → Free (seek_as f a)
seek_free f (Names x) u = record { sound = u.sound; free = u.free; fits = refl }
seek_free f Faults u = record { sound = u.sound; free = u.free; fits = refl }

initialize_free : (f : Face) (i : Option Translation) → initialized_of f.settled.geometry f.hot.regs.count f.hot.regs.at.head ≡ i
    → Running f → Free (initialize_as f i)
initialize_free f (Some t) e u =
    record { sound = translation_kept f.settled t u.sound (made_allowed f.settled.geometry f.hot.regs.count f.hot.regs.at.head t e); free = u.free; fits = refl }
initialize_free f None e u = record { sound = u.sound; free = u.free; fits = refl }

-- what the stations told of a lock state
pub not_locked_open : (l : Lock) → not_locked l ≡ true → is_locked l ≡ false
not_locked_open Open e = refl
not_locked_open Locked e = absurd (false≢true e)
not_locked_open Frozen e = refl

not_frozen_not : (l : Lock) → not_frozen l ≡ true → is_frozen l ≡ false
not_frozen_not Open e = refl
not_frozen_not Locked e = refl
not_frozen_not Frozen e = absurd (false≢true e)

open_not_frozen : (l : Lock) → is_open l ≡ true → is_frozen l ≡ false
open_not_frozen Open e = refl
open_not_frozen Locked e = absurd (false≢true e)
open_not_frozen Frozen e = absurd (false≢true e)

password_free : (f : Face) (p : Purpose) → Running f
    → is_frozen f.settled.security.lock ≡ false → purpose_fits f.settled.security p ≡ true → Free (take_password_of f p)
unfolding take_password_of password_fits
password_free f p u z e = record { sound = u.sound; free = u.free; fits = rw z e }

command_free : (f : Face) (m : List ℕ) (k : Command) → Running f
    → runs_in k f.settled.security.lock ≡ true → barred_of k f.settled.security ≡ false → Free (run_of f m k)
unfolding read_sectors_of write_sectors_of verify_sectors_of seek_of recalibrate_of initialize_parameters_of diagnostic_of identify_device_of read_buffer_of write_buffer_of erase_prepare_of freeze_lock_of
command_free f m Unknown u r b = record { sound = u.sound; free = u.free; fits = refl }
command_free f m Recalibrate u r b = record { sound = u.sound; free = u.free; fits = refl }
command_free f m ReadSectors u r b = read_at_free f m _ u (not_locked_open f.settled.security.lock r)
command_free f m WriteSectors u r b = write_at_free f _ u (not_locked_open f.settled.security.lock r)
command_free f m VerifySectors u r b = verify_free f _ _ u
command_free f m Seek u r b = seek_free f (located f.settled f.hot.regs.at) u
command_free f m ExecuteDiagnostic u r b = record { sound = u.sound; free = u.free; fits = refl }
command_free f m InitializeParameters u r b = initialize_free f _ refl u
command_free f m ReadBuffer u r b = record { sound = u.sound; free = u.free; fits = refl }
command_free f m WriteBuffer u r b = record { sound = u.sound; free = u.free; fits = refl }
command_free f m IdentifyDevice u r b = record { sound = u.sound; free = u.free; fits = refl }
command_free f m SecuritySetPassword u r b = password_free f Set u (open_not_frozen f.settled.security.lock r) r
command_free f m SecurityUnlock u r b = password_free f Unlock u (not_frozen_not f.settled.security.lock r) (ap not b)
command_free f m SecurityErasePrepare u r b =
    record { sound = security_kept f.settled _ u.sound (sound_fits _ (prepare_sound _ (fits_sound _ (settled_clauses f.settled u.sound).security))); free = u.free; fits = refl }
command_free f m SecurityEraseUnit u r b = password_free f Erase u (not_frozen_not f.settled.security.lock r) (ap not b)
command_free f m SecurityFreezeLock u r b =
    record { sound = security_kept f.settled _ u.sound (sound_fits _ (freeze_sound _ (fits_sound _ (settled_clauses f.settled u.sound).security))); free = u.free; fits = refl }
command_free f m SecurityDisablePassword u r b = password_free f Disable u (open_not_frozen f.settled.security.lock r) r

-- ---- the stations

unprepared_kept : (s : Settled) → settled_fits s ≡ true → settled_fits (with_security s (unprepared_of s.security)) ≡ true
unprepared_kept s e = security_kept s _ e (sound_fits _ (unprepare_sound _ (fits_sound _ (settled_clauses s e).security)))

abort_free : (f : Face) (code : ℕ) → Running f → Free (abort_at_once f code)
unfolding abort_at_once
abort_free f code u =
    pick_each Free (eqb code 0xF4) _ _ (λ e. record { sound = unprepared_kept f.settled u.sound; free = u.free; fits = refl })
    (λ e. record { sound = u.sound; free = u.free; fits = refl })

stations_free : (f : Face) (m : List ℕ) (code : ℕ) → Running f → Free (stations_of f m code)
unfolding stations_of may_run_of
stations_free f m code u =
    pick_each Free (runs_in (decode_of code) f.settled.security.lock) _ _
    (λ r. pick_each Free (barred_of (decode_of code) f.settled.security) _ _ (λ b. abort_free f code u) (λ b. command_free f m (decode_of code) u r b))
    (λ r. abort_free f code u)

-- what a drop leaves: registers and signals as they were, and the settled part in shape
pub record Dropped (f g : Face) : Type 0 where
  pub regs : g.hot.regs ≡ f.hot.regs
  pub signals : g.hot.signals ≡ f.hot.signals
  pub sound : settled_fits f.settled ≡ true → settled_fits g.settled ≡ true

drop_purpose_leaves : (f : Face) (p : Purpose) → Dropped f (drop_purpose f p)
drop_purpose_leaves f Set = record { regs = refl; signals = refl; sound = λ e. e }
drop_purpose_leaves f Unlock = record { regs = refl; signals = refl; sound = λ e. e }
drop_purpose_leaves f Erase = record { regs = refl; signals = refl; sound = unprepared_kept f.settled }
drop_purpose_leaves f Disable = record { regs = refl; signals = refl; sound = λ e. e }

drop_as_leaves : (f : Face) (t : Transfer) → Dropped f (drop_as f t)
drop_as_leaves f Idle = record { regs = refl; signals = refl; sound = λ e. e }
drop_as_leaves f (Reading r) = record { regs = refl; signals = refl; sound = λ e. e }
drop_as_leaves f (Writing r) = record { regs = refl; signals = refl; sound = λ e. e }
drop_as_leaves f (ReadingBuffer n) = record { regs = refl; signals = refl; sound = λ e. e }
drop_as_leaves f (WritingBuffer n) = record { regs = refl; signals = refl; sound = λ e. e }
drop_as_leaves f (TakingPassword b) =
    let d = drop_purpose_leaves (with_buffer f zero_block) b.purpose in
    record { regs = d.regs; signals = d.signals; sound = d.sound }

pub drop_leaves : (f : Face) → Dropped f (dropped_of f)
unfolding dropped_of
drop_leaves f =
    let d = drop_as_leaves (idle_face f) f.hot.transfer in
    record { regs = d.regs; signals = d.signals; sound = d.sound }

begun_free : (f : Face) (m : List ℕ) (code : ℕ) → Fits f → f.hot.signals.held ≡ false → Free (stations_of (begun_of f) m code)
unfolding begun_of
begun_free f m code k h =
    let d = drop_leaves f in
    stations_free (begun_of f) m code record { sound = d.sound k.sound; free = ap (λ (s : Signals). s.held) d.signals ∙ h }

command_fits : (f : Face) (m : List ℕ) (code : ℕ) → Fits f → Fits (command_of f m code)
unfolding command_of
command_fits f m code k = pick_each Fits f.hot.signals.held _ _ (λ h. k) (λ h. free_fits _ (begun_free f m code k h))

-- a command leaves a reset that is not held so
pub command_held : (f : Face) (m : List ℕ) (code : ℕ) → Fits f → f.hot.signals.held ≡ false → (command_of f m code).hot.signals.held ≡ false
unfolding command_of
command_held f m code k h = go f.hot.signals.held h
  where
    go : (b : Bool) → b ≡ false → (pick b f (stations_of (begun_of f) m code)).hot.signals.held ≡ false
    go true e = absurd (false≢true (sym e))
    go false e = (begun_free f m code k h).free

-- ---- words

held_open : (held idle : Bool) → pick held idle true ≡ true → idle ≡ false → held ≡ false
held_open true idle p q = absurd (false≢true (sym q ∙ p))
held_open false idle p q = refl

-- no reset is held while a transfer is open
pub open_free : (f : Face) → Fits f → is_idle f.hot.transfer ≡ false → f.hot.signals.held ≡ false
unfolding held_fits
open_free f k o = held_open f.hot.signals.held (is_idle f.hot.transfer) k.held o

open_running : (f : Face) → Fits f → is_idle f.hot.transfer ≡ false → Running f
open_running f k o = record { sound = k.sound; free = open_free f k o }

pub guard : (b x : Bool) → pick b false x ≡ true → (b ≡ false) × (x ≡ true)
guard true x e = absurd (false≢true e)
guard false x e = (refl, e)

-- a sector transfer in shape is not locked
run_unlocked : (s : Settled) (r : Run) → run_fits s r ≡ true → is_locked s.security.lock ≡ false
unfolding run_fits
run_unlocked s r e = (guard (is_locked s.security.lock) (is_named (located s r.at)) e).0

read_run_free : (f : Face) (m : List ℕ) (r : Run) → Running f → run_fits f.settled r ≡ true → Free (read_run_of f m r)
unfolding read_run_of read_next_of run_fits
read_run_free f m r u e =
    pick_each Free (ltb r.word 255) _ _ (λ q. record { sound = u.sound; free = u.free; fits = e })
    (λ q. pick_each Free (ltb 0 r.after) _ _ (λ z. read_at_free f m _ u (run_unlocked f.settled r e)) (λ z. record { sound = u.sound; free = u.free; fits = refl }))

read_buffer_free : (f : Face) (n : ℕ) → Running f → Free (read_buffer_word f n)
unfolding read_buffer_word
read_buffer_free f n u = pick_each Free (ltb n 255) _ _ (λ q. record { sound = u.sound; free = u.free; fits = refl }) (λ q. record { sound = u.sound; free = u.free; fits = refl })

-- what the open transfer's clause says
transfer_clause : (f : Face) (t : Transfer) → Fits f → f.hot.transfer ≡ t → transfer_fits f.settled t ≡ true
transfer_clause f t k e = sym (ap (transfer_fits f.settled) e) ∙ k.fits

read_word_fits : (f : Face) (m : List ℕ) (t : Transfer) → f.hot.transfer ≡ t → Fits f → Fits (read_word_as f m t).left
read_word_fits f m Idle e k = k
read_word_fits f m (Reading r) e k = free_fits _ (read_run_free f m r (open_running f k (ap is_idle e)) (transfer_clause f (Reading r) k e))
read_word_fits f m (Writing r) e k = k
read_word_fits f m (ReadingBuffer n) e k = free_fits _ (read_buffer_free f n (open_running f k (ap is_idle e)))
read_word_fits f m (WritingBuffer n) e k = k
read_word_fits f m (TakingPassword b) e k = k

write_next_free : (f : Face) (r : Run) → Running f → is_locked f.settled.security.lock ≡ false → Free (write_next_of f r)
unfolding write_next_of
write_next_free f r u l = pick_each Free (ltb 0 r.after) _ _ (λ q. want_at_free f _ u l) (λ q. record { sound = u.sound; free = u.free; fits = refl })

write_last_free : (f : Face) (r : Run) (a : Address) → Running f → is_locked f.settled.security.lock ≡ false → Free (write_last_as f r a)
write_last_free f r (Names x) u l = write_next_free f r u l
write_last_free f r Faults u l = not_found_free f r u

write_run_free : (f : Face) (r : Run) (w : ℕ) → Running f → run_fits f.settled r ≡ true → Free (write_run_of f r w)
unfolding write_run_of write_last_of run_fits
write_run_free f r w u e =
    pick_each Free (ltb r.word 255) _ _ (λ q. record { sound = u.sound; free = u.free; fits = e })
    (λ q. write_last_free (word_in f r.word w) r (located f.settled r.at) record { sound = u.sound; free = u.free } (run_unlocked f.settled r e))

write_buffer_free : (f : Face) (n w : ℕ) → Running f → Free (write_buffer_word f n w)
unfolding write_buffer_word
write_buffer_free f n w u = pick_each Free (ltb n 255) _ _ (λ q. record { sound = u.sound; free = u.free; fits = refl }) (λ q. record { sound = u.sound; free = u.free; fits = refl })

ended_free : (f : Face) (v : Verdict) → Running f → Free (ended_as f v)
ended_free f EndsWell u = record { sound = u.sound; free = u.free; fits = refl }
ended_free f Aborts u = record { sound = u.sound; free = u.free; fits = refl }
ended_free f Erases u = record { sound = u.sound; free = u.free; fits = refl }

password_last_free : (f : Face) (x : Secrets) (p : Purpose) → Running f → Free (password_last f x p).face
unfolding password_last
password_last_free f x p u =
    let k = fits_sound _ (settled_clauses f.settled u.sound).security in
    ended_free (password_ended f (judgement_of f x p).security) (judgement_of f x p).verdict
    record { sound = security_kept f.settled _ u.sound (sound_fits _ (judge_sound p f.settled.security x f.buffer k)); free = u.free }

password_word_free : (f : Face) (x : Secrets) (b : PasswordBlock) (w : ℕ) → Running f
    → password_fits f.settled.security b.purpose ≡ true → Free (password_word f x b w).face
unfolding password_word
password_word_free f x b w u e =
    pick_each (λ (x : Acted). Free x.face) (ltb b.word 255) _ _ (λ q. record { sound = u.sound; free = u.free; fits = e })
    (λ q. password_last_free (word_in f b.word w) x b.purpose record { sound = u.sound; free = u.free })

write_word_fits : (f : Face) (x : Secrets) (m : List ℕ) (w : ℕ) (t : Transfer) → f.hot.transfer ≡ t → Fits f → Fits (write_word_as f x m w t).acted.face
write_word_fits f x m w Idle e k = k
write_word_fits f x m w (Reading r) e k = k
write_word_fits f x m w (Writing r) e k = free_fits _ (write_run_free f r w (open_running f k (ap is_idle e)) (transfer_clause f (Writing r) k e))
write_word_fits f x m w (ReadingBuffer n) e k = k
write_word_fits f x m w (WritingBuffer n) e k = free_fits _ (write_buffer_free f n w (open_running f k (ap is_idle e)))
write_word_fits f x m w (TakingPassword b) e k = free_fits _ (password_word_free f x b w (open_running f k (ap is_idle e)) (transfer_clause f (TakingPassword b) k e))

-- where a transfer is open, a word leaves no reset held
pub read_word_held : (f : Face) (m : List ℕ) (t : Transfer) → f.hot.transfer ≡ t → Fits f → is_idle t ≡ false → (read_word_as f m t).left.hot.signals.held ≡ false
read_word_held f m Idle e k o = absurd (false≢true (sym o))
read_word_held f m (Reading r) e k o = (read_run_free f m r (open_running f k (ap is_idle e)) (transfer_clause f (Reading r) k e)).free
read_word_held f m (Writing r) e k o = open_free f k (ap is_idle e)
read_word_held f m (ReadingBuffer n) e k o = (read_buffer_free f n (open_running f k (ap is_idle e))).free
read_word_held f m (WritingBuffer n) e k o = open_free f k (ap is_idle e)
read_word_held f m (TakingPassword b) e k o = open_free f k (ap is_idle e)

pub write_word_held : (f : Face) (x : Secrets) (m : List ℕ) (w : ℕ) (t : Transfer) → f.hot.transfer ≡ t → Fits f → is_idle t ≡ false
    → (write_word_as f x m w t).acted.face.hot.signals.held ≡ false
write_word_held f x m w Idle e k o = absurd (false≢true (sym o))
write_word_held f x m w (Reading r) e k o = open_free f k (ap is_idle e)
write_word_held f x m w (Writing r) e k o = (write_run_free f r w (open_running f k (ap is_idle e)) (transfer_clause f (Writing r) k e)).free
write_word_held f x m w (ReadingBuffer n) e k o = open_free f k (ap is_idle e)
write_word_held f x m w (WritingBuffer n) e k o = (write_buffer_free f n w (open_running f k (ap is_idle e))).free
write_word_held f x m w (TakingPassword b) e k o = (password_word_free f x b w (open_running f k (ap is_idle e)) (transfer_clause f (TakingPassword b) k e)).free

-- ---- registers and resets

-- the same reset held or not, and the same transfer
record Kept (h k : Hot) : Type 0 where
  held : k.signals.held ≡ h.signals.held
  transfer : k.transfer ≡ h.transfer

kept_fits : (f : Face) (h : Hot) → Fits f → Kept f.hot h → Fits (with_hot f h)
unfolding held_fits
kept_fits f h k e =
    record { sound = k.sound; held = rw (e.held, e.transfer) k.held; fits = ap (transfer_fits f.settled) e.transfer ∙ k.fits }

read_kept : (h : Hot) (n : ℕ) → Kept h (read_register h n).left
unfolding read_register
read_kept h n =
    pick_both (λ (s : Shows Hot). Kept h s.left) (eqb n 1) _ _ same (pick_both (λ (s : Shows Hot). Kept h s.left) (eqb n 2) _ _ same (pick_both (λ (s : Shows Hot). Kept h s.left) (eqb n 3) _ _ same (pick_both (λ (s : Shows Hot). Kept h s.left) (eqb n 4) _ _ same (pick_both (λ (s : Shows Hot). Kept h s.left) (eqb n 5) _ _ same
    (pick_both (λ (s : Shows Hot). Kept h s.left) (eqb n 6) _ _ same (pick_both (λ (s : Shows Hot). Kept h s.left) (eqb n 7) _ _ record { held = refl; transfer = refl } (pick_both (λ (s : Shows Hot). Kept h s.left) (eqb n 8) _ _ same same)))))))
  where
    same : Kept h h
    same = record { held = refl; transfer = refl }

store_kept : (h : Hot) (n v : ℕ) → Kept h (store_register h n v)
unfolding store_register
store_kept h n v =
    pick_both (Kept h) (eqb n 1) _ _ record { held = refl; transfer = refl } (pick_both (Kept h) (eqb n 2) _ _ record { held = refl; transfer = refl }
    (pick_both (Kept h) (eqb n 3) _ _ record { held = refl; transfer = refl } (pick_both (Kept h) (eqb n 4) _ _ record { held = refl; transfer = refl }
    (pick_both (Kept h) (eqb n 5) _ _ record { held = refl; transfer = refl } record { held = refl; transfer = refl }))))

put_kept : (h : Hot) (n v : ℕ) → Kept h (put_register h n v)
unfolding put_register
put_kept h n v = pick_both (Kept h) (busy_of h) _ _ record { held = refl; transfer = refl } (store_kept h n v)

pub power_on_fits : (f : Face) → settled_fits f.settled ≡ true → Fits (powered_on_face f)
unfolding held_fits
power_on_fits f s =
    let k = settled_clauses f.settled s in
    let t = translation_kept f.settled _ s (factory_allowed f.settled.geometry k.geometry) in
    record { sound = security_kept _ _ t (sound_fits _ (power_on_sound f.settled.security)); held = refl; fits = refl }

soft_reset_fits : (f : Face) (masked : Bool) → settled_fits f.settled ≡ true → Fits (soft_reset_of f masked)
unfolding held_fits
soft_reset_fits f masked s =
    let k = settled_clauses f.settled s in
    let t = translation_kept f.settled _ s (factory_allowed f.settled.geometry k.geometry) in
    record { sound = security_kept _ _ t (sound_fits _ (unprepare_sound _ (fits_sound _ k.security))); held = refl; fits = refl }

control_fits : (f : Face) (v : ℕ) → Fits f → Fits (control_of f v)
unfolding control_of held_fits
control_fits f v k =
    pick_each Fits (srst_of v) _ _ (λ e. soft_reset_fits f (nien_of v) k.sound) (λ e. record { sound = k.sound; held = refl; fits = k.fits })

write_register_fits : (f : Face) (m : List ℕ) (n v : ℕ) → Fits f → Fits (write_register_of f m n v).left
unfolding write_register_of
write_register_fits f m n v k =
    pick_both (λ (t : Shows Face). Fits t.left) (within 1 6 n) _ _ (kept_fits f _ k (put_kept f.hot n v))
    (pick_both (λ (t : Shows Face). Fits t.left) (eqb n 7) _ _ (command_fits f m v k) (pick_both (λ (t : Shows Face). Fits t.left) (eqb n 8) _ _ (control_fits f v k) k))

-- every action keeps the disk in shape
pub act_fits : (f : Face) (x : Secrets) (m : List ℕ) (a : Action) → Fits f → Fits (act_of f x m a).acted.face
unfolding act_of read_word_of write_word_of
act_fits f x m (ReadRegister n) k = kept_fits f _ k (read_kept f.hot n)
act_fits f x m (WriteRegister n v) k = write_register_fits f m n v k
act_fits f x m ReadWord k = read_word_fits f m f.hot.transfer refl k
act_fits f x m (WriteWord w) k = write_word_fits f x m w f.hot.transfer refl k
act_fits f x m HardwareReset k = power_on_fits f k.sound
act_fits f x m PowerOn k = power_on_fits f k.sound
act_fits f x m Line k = k
