-- Every action is made of few changes of the face, so whatever each of these keeps, every action keeps.
use Rattle.std.specs.Prelude.{Option, Some, None}
use mathlib.Core.Bool.{true, false}
use mathlib.Core.Path.{◌≡◌, refl}
use mathlib.Core.List.{List}
use Prim.Native.Nat.{ℕ, zero, suc}
use lib.Dec.{eqb, ltb}
use Rattle.base.specs.Choice.{within}
use Rattle.base.proofs.Tests.{pick_both, pick_each}
use Rattle.geometry.specs.Translation.{factory_of, initialized_of}
use Rattle.geometry.specs.declared.Translation.{Translation}
use Rattle.successor.specs.Successor.{successor_of}
use Rattle.address.specs.declared.AddressRegisters.{AddressRegisters}
use Rattle.address.specs.declared.Address.TheVariants.{Names}
use Rattle.address.specs.declared.Sector.{Sector}
use Rattle.lock.specs.Lock.{is_locked, frozen_of, prepared_of, unprepared_of}
use Rattle.lock.specs.declared.Secrets.{Secrets}
use Rattle.lock.specs.declared.Purpose.{Purpose}
use Rattle.lock.specs.declared.Purpose.TheVariants.{Set, Unlock, Erase, Disable}
use Rattle.judging.specs.Judging.{judge_of}
use Rattle.judging.specs.declared.Verdict.{Verdict}
use Rattle.judging.specs.declared.Verdict.TheVariants.{EndsWell, Aborts, Erases}
use Rattle.codes.specs.Commands.{decode_of}
use Rattle.codes.specs.MayRun.{runs_in, may_run_of, barred_of}
use Rattle.codes.specs.declared.Command.{Command}
use Rattle.codes.specs.declared.Command.TheVariants.{Unknown, Recalibrate, ReadSectors, WriteSectors, VerifySectors, Seek, ExecuteDiagnostic, InitializeParameters, ReadBuffer, WriteBuffer, IdentifyDevice, SecuritySetPassword, SecurityUnlock, SecurityErasePrepare, SecurityEraseUnit, SecurityFreezeLock, SecurityDisablePassword}
use Rattle.settled.specs.Settled.{with_translation, with_security}
use Rattle.block.specs.Sectors.{zero_block, sector_at}
use Rattle.identify.specs.Identify.{identify_of}
use Rattle.face.specs.Face.{with_hot, with_settled, with_buffer, idle_face}
use Rattle.face.specs.declared.Run.{Run}
use Rattle.face.specs.declared.PasswordBlock.{PasswordBlock}
use Rattle.face.specs.declared.Transfer.{Transfer}
use Rattle.face.specs.declared.Transfer.TheVariants.{Idle, Reading, Writing, ReadingBuffer, WritingBuffer, TakingPassword}
use Rattle.face.specs.declared.Hot.{Hot}
use Rattle.face.specs.declared.Face.{Face}
use Rattle.face.specs.declared.Action.{Action}
use Rattle.face.specs.declared.Action.TheVariants.{ReadRegister, WriteRegister, ReadWord, WriteWord, HardwareReset, PowerOn, Line}
use Rattle.resets.specs.Control.{srst_of, control_of}
use Rattle.resets.specs.Resets.{drop_purpose, drop_as, dropped_of, powered_on_face}
use Rattle.transfers.specs.Sectors.{run_at, ended_well, located, after_of, not_found_of}
use Rattle.transfers.specs.Words.{read_buffer_word, word_in, write_buffer_word}
use Rattle.face.specs.declared.Shows.{Shows}
use Rattle.reading.specs.Sectors.{read_as, read_at, read_sectors_of, verify_as, verify_last, verify_from, verify_sectors_of}
use Rattle.reading.specs.Words.{read_next_of, read_run_of, read_word_as, read_word_of}
use Rattle.writing.specs.Sectors.{write_as, write_at, write_sectors_of}
use Rattle.writing.specs.Words.{want_as, want_at, write_next_of, write_last_as, write_last_of, write_run_of}
use Rattle.commands.specs.Others.{seek_as, seek_of, recalibrate_of, initialize_as, initialize_parameters_of, diagnostic_of, identify_device_of, read_buffer_of, write_buffer_of, take_password_of, erase_prepare_of, freeze_lock_of}
use Rattle.commands.specs.Gate.{begun_of, abort_at_once, run_of, stations_of, command_of}
use Rattle.effects.specs.declared.Acted.{Acted}
use Rattle.password.specs.Passwords.{password_ended, ended_as, judgement_of, password_last, password_word}
use Rattle.disk.specs.Actions.{write_register_of, write_word_as, write_word_of, act_of}
use Rattle.laws.proofs.Shape.{address_each, not_locked_open}

-- a property of faces over memory m that each change keeps, but for power-on and judged password blocks; F5h runs only where the disk is not locked
pub record Lasts (m : List ℕ) (P : Face → Type 0) : Type 0 where
  pub hot : (f : Face) (h : Hot) → P f → P (with_hot f h)
  pub made : (f : Face) (count head : ℕ) (t : Translation) → initialized_of f.settled.geometry count head ≡ Some t → P f → P (with_settled f (with_translation f.settled t))
  pub factory : (f : Face) → P f → P (with_settled f (with_translation f.settled (factory_of f.settled.geometry)))
  pub prepared : (f : Face) → P f → P (with_settled f (with_security f.settled (prepared_of f.settled.security)))
  pub unprepared : (f : Face) → P f → P (with_settled f (with_security f.settled (unprepared_of f.settled.security)))
  pub frozen : (f : Face) → is_locked f.settled.security.lock ≡ false → P f → P (with_settled f (with_security f.settled (frozen_of f.settled.security)))
  pub zeroed : (f : Face) → P f → P (with_buffer f zero_block)
  pub sector : (f : Face) (at : AddressRegisters) (x : Sector) → located f.settled at ≡ Names x → P f → P (with_buffer f (sector_at m x.number))
  pub identified : (f : Face) → P f → P (with_buffer f (identify_of f.settled))
  pub word : (f : Face) (n w : ℕ) → P f → P (word_in f n w)

-- ---- sectors reached

read_at_lasts : {m : List ℕ} {P : Face → Type 0} → Lasts m P → (f : Face) (r : Run) → P f → P (read_at f m r)
unfolding read_at not_found_of
read_at_lasts {m} {P} c f r p =
    address_each P (read_as f m r) (located f.settled r.at) (λ x e. c.sector (with_hot f _) r.at x e (c.hot f _ p)) (c.hot f _ p)

verify_lasts : {m : List ℕ} {P : Face → Type 0} → Lasts m P → (f : Face) (n : ℕ) (at : AddressRegisters) → P f → P (verify_from f n at)
unfolding verify_from verify_last not_found_of
verify_lasts {m} {P} c f zero at p = address_each P (verify_as f (run_at at 0) (ended_well f at)) (located f.settled at) (λ x e. c.hot f _ p) (c.hot f _ p)
verify_lasts {m} {P} c f (suc k) at p =
    address_each P (verify_as f (run_at at (suc k)) (verify_from f k (successor_of f.settled.translation at))) (located f.settled at) (λ x e. verify_lasts c f k (successor_of f.settled.translation at) p) (c.hot f _ p)

-- ---- commands

initialize_lasts : {m : List ℕ} {P : Face → Type 0} → Lasts m P → (f : Face) (i : Option Translation) → initialized_of f.settled.geometry f.hot.regs.count f.hot.regs.at.head ≡ i
    → P f → P (initialize_as f i)
initialize_lasts c f (Some t) e p = c.made (with_hot f _) f.hot.regs.count f.hot.regs.at.head t e (c.hot f _ p)
initialize_lasts c f None e p = c.hot f _ p

run_lasts : {m : List ℕ} {P : Face → Type 0} → Lasts m P → (f : Face) (k : Command) → runs_in k f.settled.security.lock ≡ true → P f → P (run_of f m k)
unfolding read_sectors_of write_sectors_of write_at not_found_of verify_sectors_of seek_of recalibrate_of initialize_parameters_of diagnostic_of identify_device_of read_buffer_of write_buffer_of take_password_of erase_prepare_of freeze_lock_of
run_lasts c f Unknown r p = c.hot f _ p
run_lasts c f Recalibrate r p = c.hot f _ p
run_lasts c f ReadSectors r p = read_at_lasts c f _ p
run_lasts {m} {P} c f WriteSectors r p = address_each P (write_as f _) (located f.settled _) (λ x e. c.hot f _ p) (c.hot f _ p)
run_lasts c f VerifySectors r p = verify_lasts c f (after_of f.hot.regs.count) f.hot.regs.at p
run_lasts {m} {P} c f Seek r p = address_each P (seek_as f) (located f.settled f.hot.regs.at) (λ x e. c.hot f _ p) (c.hot f _ p)
run_lasts c f ExecuteDiagnostic r p = c.hot f _ p
run_lasts c f InitializeParameters r p = initialize_lasts c f _ refl p
run_lasts c f ReadBuffer r p = c.hot f _ p
run_lasts c f WriteBuffer r p = c.hot f _ p
run_lasts c f IdentifyDevice r p = c.identified (with_hot f _) (c.hot f _ p)
run_lasts c f SecuritySetPassword r p = c.hot f _ p
run_lasts c f SecurityUnlock r p = c.hot f _ p
run_lasts c f SecurityErasePrepare r p = c.prepared (with_hot f _) (c.hot f _ p)
run_lasts c f SecurityEraseUnit r p = c.hot f _ p
run_lasts c f SecurityFreezeLock r p = c.frozen (with_hot f _) (not_locked_open f.settled.security.lock r) (c.hot f _ p)
run_lasts c f SecurityDisablePassword r p = c.hot f _ p

abort_lasts : {m : List ℕ} {P : Face → Type 0} → Lasts m P → (f : Face) (code : ℕ) → P f → P (abort_at_once f code)
unfolding abort_at_once
abort_lasts {m} {P} c f code p = pick_both P (eqb code 0xF4) _ _ (c.unprepared (with_hot f _) (c.hot f _ p)) (c.hot f _ p)

stations_lasts : {m : List ℕ} {P : Face → Type 0} → Lasts m P → (f : Face) (code : ℕ) → P f → P (stations_of f m code)
unfolding stations_of may_run_of
stations_lasts {m} {P} c f code p =
    pick_each P (runs_in (decode_of code) f.settled.security.lock) _ _
    (λ r. pick_both P (barred_of (decode_of code) f.settled.security) _ _ (abort_lasts c f code p) (run_lasts c f (decode_of code) r p))
    (λ r. abort_lasts c f code p)

drop_purpose_lasts : {m : List ℕ} {P : Face → Type 0} → Lasts m P → (f : Face) (u : Purpose) → P f → P (drop_purpose f u)
drop_purpose_lasts c f Set p = p
drop_purpose_lasts c f Unlock p = p
drop_purpose_lasts c f Erase p = c.unprepared f p
drop_purpose_lasts c f Disable p = p

drop_as_lasts : {m : List ℕ} {P : Face → Type 0} → Lasts m P → (f : Face) (t : Transfer) → P f → P (drop_as f t)
drop_as_lasts c f Idle p = p
drop_as_lasts c f (Reading r) p = p
drop_as_lasts c f (Writing r) p = p
drop_as_lasts c f (ReadingBuffer n) p = p
drop_as_lasts c f (WritingBuffer n) p = p
drop_as_lasts c f (TakingPassword b) p = drop_purpose_lasts c _ b.purpose (c.zeroed f p)

pub drop_lasts : {m : List ℕ} {P : Face → Type 0} → Lasts m P → (f : Face) → P f → P (dropped_of f)
unfolding dropped_of
drop_lasts c f p = drop_as_lasts c (idle_face f) f.hot.transfer (c.hot f _ p)

command_lasts : {m : List ℕ} {P : Face → Type 0} → Lasts m P → (f : Face) (code : ℕ) → P f → P (command_of f m code)
unfolding command_of begun_of
command_lasts {m} {P} c f code p =
    pick_both P f.hot.signals.held _ _ p (stations_lasts c (begun_of f) code (c.hot (dropped_of f) _ (drop_lasts c f p)))

control_lasts : {m : List ℕ} {P : Face → Type 0} → Lasts m P → (f : Face) (v : ℕ) → P f → P (control_of f v)
unfolding control_of
control_lasts {m} {P} c f v p =
    pick_both P (srst_of v) _ _ (c.zeroed _ (c.unprepared _ (c.factory (with_hot f _) (c.hot f _ p)))) (c.hot f _ p)

pub write_register_lasts : {m : List ℕ} {P : Face → Type 0} → Lasts m P → (f : Face) (n v : ℕ) → P f → P (write_register_of f m n v).left
unfolding write_register_of
write_register_lasts {m} {P} c f n v p =
    pick_both Q (within 1 6 n) _ _ (c.hot f _ p) (pick_both Q (eqb n 7) _ _ (command_lasts c f v p) (pick_both Q (eqb n 8) _ _ (control_lasts c f v p) p))
  where
    Q : Shows Face → Type 0
    Q t = P t.left

-- ---- words

pub read_word_lasts : {m : List ℕ} {P : Face → Type 0} → Lasts m P → (f : Face) (t : Transfer) → P f → P (read_word_as f m t).left
unfolding read_run_of read_next_of read_buffer_word
read_word_lasts c f Idle p = p
read_word_lasts {m} {P} c f (Reading r) p =
    pick_both P (ltb r.word 255) _ _ (c.hot f _ p) (pick_both P (ltb 0 r.after) _ _ (read_at_lasts c f _ p) (c.hot f _ p))
read_word_lasts c f (Writing r) p = p
read_word_lasts {m} {P} c f (ReadingBuffer n) p = pick_both P (ltb n 255) _ _ (c.hot f _ p) (c.hot f _ p)
read_word_lasts c f (WritingBuffer n) p = p
read_word_lasts c f (TakingPassword b) p = p

write_run_lasts : {m : List ℕ} {P : Face → Type 0} → Lasts m P → (f : Face) (r : Run) (w : ℕ) → P f → P (write_run_of f r w)
unfolding write_run_of write_last_of write_next_of want_at not_found_of
write_run_lasts {m} {P} c f r w p =
    pick_both P (ltb r.word 255) _ _ (c.hot g _ q)
    (address_each P (write_last_as g r) (located f.settled r.at)
    (λ x e. pick_both P (ltb 0 r.after) _ _ (address_each P (want_as g _) (located f.settled _) (λ y h. c.hot g _ q) (c.hot g _ q)) (c.hot g _ q))
    (c.hot g _ q))
  where
    g : Face
    g = word_in f r.word w

    q : P g
    q = c.word f r.word w p

pub write_word_lasts : {m : List ℕ} {P : Face → Type 0} → Lasts m P → (f : Face) (x : Secrets) (w : ℕ) (t : Transfer)
    → ((b : PasswordBlock) → t ≡ TakingPassword b → P (password_word f x b w).face) → P f → P (write_word_as f x m w t).acted.face
unfolding write_buffer_word
write_word_lasts c f x w Idle h p = p
write_word_lasts c f x w (Reading r) h p = p
write_word_lasts c f x w (Writing r) h p = write_run_lasts c f r w p
write_word_lasts c f x w (ReadingBuffer n) h p = p
write_word_lasts {m} {P} c f x w (WritingBuffer n) h p =
    let q = c.word f n w p in pick_both P (ltb n 255) _ _ (c.hot (word_in f n w) _ q) (c.hot (word_in f n w) _ q)
write_word_lasts c f x w (TakingPassword b) h p = h b refl

ended_lasts : {m : List ℕ} {P : Face → Type 0} → Lasts m P → (f : Face) (v : Verdict) → P f → P (ended_as f v)
ended_lasts c f EndsWell p = c.hot f _ p
ended_lasts c f Aborts p = c.hot f _ p
ended_lasts c f Erases p = c.hot f _ p

password_lasts : {m : List ℕ} {P : Face → Type 0} → Lasts m P → (f : Face) (x : Secrets) (b : PasswordBlock) (w : ℕ)
    → ((u : Purpose) (l : List ℕ) → P (password_ended f (judge_of u f.settled.security x l).security)) → P f → P (password_word f x b w).face
unfolding password_word password_last
password_lasts {m} {P} c f x b w h p =
    let g = word_in f b.word w in
    let j = judgement_of g x b.purpose in
    pick_both (λ (a : Acted). P a.face) (ltb b.word 255) _ _ (c.hot g _ (c.word f b.word w p))
    (ended_lasts c (password_ended g j.security) j.verdict (h b.purpose g.buffer))

-- ---- every action

pub act_lasts : {m : List ℕ} {P : Face → Type 0} → Lasts m P → (f : Face) (x : Secrets) (a : Action) → P (powered_on_face f)
    → ((u : Purpose) (b : List ℕ) → P (password_ended f (judge_of u f.settled.security x b).security)) → P f → P (act_of f x m a).acted.face
unfolding act_of read_word_of write_word_of
act_lasts c f x (ReadRegister n) o h p = c.hot f _ p
act_lasts c f x (WriteRegister n v) o h p = write_register_lasts c f n v p
act_lasts c f x ReadWord o h p = read_word_lasts c f f.hot.transfer p
act_lasts c f x (WriteWord w) o h p = write_word_lasts c f x w f.hot.transfer (λ b e. password_lasts c f x b w h p) p
act_lasts c f x HardwareReset o h p = o
act_lasts c f x PowerOn o h p = o
act_lasts c f x Line o h p = p
