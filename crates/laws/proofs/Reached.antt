-- Every state reached from setup is in shape: setup's is, and every action keeps it so, DEV's clauses included.
use Rattle.std.specs.Prelude.{Option, Some, None}
use mathlib.Core.Bool.{Bool, true, false, not}
use mathlib.Core.Path.{◌≡◌, refl, sym, ap, ◌∙◌}
use mathlib.Core.Logic.{◌⊎◌, inl, inr}
use mathlib.Core.List.{List, [], ◌∷◌}
use Prim.Native.Nat.{ℕ, zero, suc, ◌/◌, ◌%◌}
use lib.Dec.{eqb, ltb}
use lib.ListN.{length}
use borrow.Author.Tests.{eqb-true}
use Rattle.geometry.specs.declared.Translation.{Translation}
use Rattle.base.specs.Choice.{pick, within}
use Rattle.base.proofs.Tests.{false≢true, pick_both, pick_each, either_way}
use Rattle.geometry.specs.Geometry.{geometry_fits}
use Rattle.geometry.specs.declared.Geometry.{Geometry}
use Rattle.geometry.specs.Translation.{initialized_of}
use Rattle.geometry.proofs.Translations.{factory_allowed}
use Rattle.successor.specs.Successor.{successor_of}
use Rattle.address.specs.declared.AddressRegisters.{AddressRegisters}
use Rattle.address.specs.declared.Address.{Address}
use Rattle.address.specs.declared.Address.TheVariants.{Names, Faults}
use Rattle.lock.specs.Lock.{security_fits}
use Rattle.lock.specs.declared.Secrets.{Secrets}
use Rattle.lock.specs.declared.Purpose.{Purpose}
use Rattle.judging.specs.declared.Verdict.{Verdict}
use Rattle.judging.specs.declared.Verdict.TheVariants.{EndsWell, Aborts, Erases}
use Rattle.codes.specs.Commands.{coded_of, decode_of}
use Rattle.codes.specs.MayRun.{may_run_of, barred_of}
use Rattle.codes.specs.declared.Command.{Command}
use Rattle.codes.specs.declared.Command.TheVariants.{Unknown, Recalibrate, ReadSectors, WriteSectors, VerifySectors, Seek, ExecuteDiagnostic, InitializeParameters, ReadBuffer, WriteBuffer, IdentifyDevice, SecuritySetPassword, SecurityUnlock, SecurityErasePrepare, SecurityEraseUnit, SecurityFreezeLock, SecurityDisablePassword}
use Rattle.settled.specs.Identity.{identity_fits}
use Rattle.settled.specs.Settled.{settled_fits}
use Rattle.settled.specs.declared.Identity.{Identity}
use Rattle.settled.proofs.Clauses.{clauses_settled}
use Rattle.settled.specs.Setup.{fresh_settled}
use Rattle.face.specs.Face.{with_settled}
use Rattle.face.specs.Reads.{is_idle, read_register}
use Rattle.face.specs.Writes.{busy_of, store_register, put_register}
use Rattle.resets.specs.Control.{srst_of, control_of}
use Rattle.face.specs.declared.Run.{Run}
use Rattle.face.specs.declared.Registers.{Registers}
use Rattle.face.specs.declared.Transfer.{Transfer}
use Rattle.face.specs.declared.Transfer.TheVariants.{Idle, Reading, Writing, ReadingBuffer, WritingBuffer, TakingPassword}
use Rattle.face.specs.declared.Hot.{Hot}
use Rattle.face.specs.declared.Face.{Face}
use Rattle.face.specs.declared.Shows.{Shows}
use Rattle.face.specs.declared.Action.{Action}
use Rattle.face.specs.declared.Action.TheVariants.{ReadRegister, WriteRegister, ReadWord, WriteWord, HardwareReset, PowerOn, Line}
use Rattle.transfers.specs.Sectors.{located, after_of, first_run, next_run, not_found_of}
use Rattle.reading.specs.Sectors.{read_as, read_at, read_sectors_of, verify_as, verify_last, verify_from, verify_sectors_of}
use Rattle.writing.specs.Sectors.{write_as, write_at, write_sectors_of}
use Rattle.transfers.specs.Words.{read_buffer_word, word_in, write_buffer_word}
use Rattle.reading.specs.Words.{read_next_of, read_run_of, read_word_as, read_word_of}
use Rattle.writing.specs.Words.{want_as, want_at, write_next_of, write_last_as, write_last_of, write_run_of}
use Rattle.fastpath.specs.Dev.{dev_set, ignored_of}
use Rattle.face.specs.Setup.{zero_face}
use Rattle.commands.specs.Others.{seek_as, seek_of, recalibrate_of, initialize_as, initialize_parameters_of, diagnostic_of, identify_device_of, read_buffer_of, write_buffer_of, take_password_of, erase_prepare_of, freeze_lock_of}
use Rattle.commands.specs.Gate.{begun_of, abort_at_once, run_of, stations_of, command_of}
use Rattle.shape.specs.Shape.{parts_fit, disk_fits}
use Rattle.password.specs.Passwords.{password_ended, ended_as, judgement_of, password_last, password_word}
use Rattle.effects.specs.declared.Acted.{Acted}
use Rattle.disk.specs.Actions.{write_register_of, write_word_as, write_word_of, act_of}
use Rattle.shape.proofs.Clauses.{Fits, shape_clauses, clauses_shape}
use Rattle.device.specs.Alone.{alone_of}
use Rattle.device.specs.Host.{alone_fits, shaped_of, memory_length, step_of}
use Rattle.device.specs.Setup.{zero_device, fresh_of}
use Rattle.device.specs.declared.Device.{Device}
use Rattle.device.proofs.Memories.{shaped_disk}
use Rattle.laws.proofs.Shape.{address_each, drop_leaves, act_fits, power_on_fits, command_held, read_word_held, write_word_held}

-- ---- where a transfer is open after a command or a word, the address is the host's

-- no transfer is open, or the address registers are these
record Placed (at : AddressRegisters) (f : Face) : Type 0 where
  is : (is_idle f.hot.transfer ≡ true) ⊎ (f.hot.regs.at ≡ at)

idle : {at : AddressRegisters} {f : Face} → is_idle f.hot.transfer ≡ true → Placed at f
idle e = record { is = inl e }

stays : {at : AddressRegisters} {f : Face} → f.hot.regs.at ≡ at → Placed at f
stays e = record { is = inr e }

not_found_placed : {at : AddressRegisters} (f : Face) (r : Run) → Placed at (not_found_of f r)
unfolding not_found_of
not_found_placed f r = idle refl

read_at_placed : (f : Face) (m : List ℕ) (r : Run) → Placed f.hot.regs.at (read_at f m r)
unfolding read_at
read_at_placed f m r = address_each (Placed f.hot.regs.at) (read_as f m r) (located f.settled r.at) (λ x e. stays refl) (not_found_placed f r)

write_at_placed : (f : Face) (r : Run) → Placed f.hot.regs.at (write_at f r)
unfolding write_at
write_at_placed f r = address_each (Placed f.hot.regs.at) (write_as f r) (located f.settled r.at) (λ x e. stays refl) (not_found_placed f r)

want_at_placed : (f : Face) (r : Run) → Placed f.hot.regs.at (want_at f r)
unfolding want_at
want_at_placed f r = address_each (Placed f.hot.regs.at) (want_as f r) (located f.settled r.at) (λ x e. stays refl) (not_found_placed f r)

verify_idle : (f : Face) (r : Run) (rest : Face) (a : Address) → is_idle rest.hot.transfer ≡ true → is_idle (verify_as f r rest a).hot.transfer ≡ true
unfolding not_found_of
verify_idle f r rest (Names x) e = e
verify_idle f r rest Faults e = refl

verified_idle : (f : Face) (n : ℕ) (at : AddressRegisters) → is_idle (verify_from f n at).hot.transfer ≡ true
unfolding verify_from verify_last
verified_idle f zero at = verify_idle f _ _ (located f.settled at) refl
verified_idle f (suc k) at = verify_idle f _ _ (located f.settled at) (verified_idle f k (successor_of f.settled.translation at))

seek_idle : (f : Face) (a : Address) → is_idle (seek_as f a).hot.transfer ≡ true
seek_idle f (Names x) = refl
seek_idle f Faults = refl

initialize_idle : (f : Face) (i : Option Translation) → is_idle (initialize_as f i).hot.transfer ≡ true
initialize_idle f (Some t) = refl
initialize_idle f None = refl

run_placed : (f : Face) (m : List ℕ) (k : Command) → Placed f.hot.regs.at (run_of f m k)
unfolding read_sectors_of write_sectors_of verify_sectors_of seek_of recalibrate_of initialize_parameters_of diagnostic_of identify_device_of read_buffer_of write_buffer_of take_password_of erase_prepare_of freeze_lock_of
run_placed f m Unknown = idle refl
run_placed f m Recalibrate = idle refl
run_placed f m ReadSectors = read_at_placed f m (first_run f.hot.regs)
run_placed f m WriteSectors = write_at_placed f (first_run f.hot.regs)
run_placed f m VerifySectors = idle (verified_idle f (after_of f.hot.regs.count) f.hot.regs.at)
run_placed f m Seek = idle (seek_idle f (located f.settled f.hot.regs.at))
run_placed f m ExecuteDiagnostic = idle refl
run_placed f m InitializeParameters = idle (initialize_idle f (initialized_of f.settled.geometry f.hot.regs.count f.hot.regs.at.head))
run_placed f m ReadBuffer = stays refl
run_placed f m WriteBuffer = stays refl
run_placed f m IdentifyDevice = stays refl
run_placed f m SecuritySetPassword = stays refl
run_placed f m SecurityUnlock = stays refl
run_placed f m SecurityErasePrepare = idle refl
run_placed f m SecurityEraseUnit = stays refl
run_placed f m SecurityFreezeLock = idle refl
run_placed f m SecurityDisablePassword = stays refl

abort_placed : (f : Face) (code : ℕ) → Placed f.hot.regs.at (abort_at_once f code)
unfolding abort_at_once
abort_placed f code = pick_both (Placed f.hot.regs.at) (eqb code 0xF4) _ _ (idle refl) (idle refl)

stations_placed : (f : Face) (m : List ℕ) (code : ℕ) → Placed f.hot.regs.at (stations_of f m code)
unfolding stations_of
stations_placed f m code =
    pick_both (Placed f.hot.regs.at) (may_run_of code f.settled.security.lock) _ _
    (pick_both (Placed f.hot.regs.at) (barred_of (decode_of code) f.settled.security) _ _ (abort_placed f code) (run_placed f m (decode_of code)))
    (abort_placed f code)

command_placed : (f : Face) (m : List ℕ) (code : ℕ) → Placed f.hot.regs.at (command_of f m code)
unfolding command_of begun_of
command_placed f m code =
    pick_both (Placed f.hot.regs.at) f.hot.signals.held _ _ (stays refl) (go (stations_placed (begun_of f) m code))
  where
    go : Placed (begun_of f).hot.regs.at (stations_of (begun_of f) m code) → Placed f.hot.regs.at (stations_of (begun_of f) m code)
    go p = moved p.is
      where
        moved : (is_idle (stations_of (begun_of f) m code).hot.transfer ≡ true) ⊎ ((stations_of (begun_of f) m code).hot.regs.at ≡ (begun_of f).hot.regs.at) → Placed f.hot.regs.at (stations_of (begun_of f) m code)
        moved (inl e) = idle e
        moved (inr e) = stays (e ∙ ap (λ (r : Registers). r.at) (drop_leaves f).regs)

read_word_placed : (f : Face) (m : List ℕ) (t : Transfer) → Placed f.hot.regs.at (read_word_as f m t).left
unfolding read_run_of read_next_of read_buffer_word
read_word_placed f m Idle = stays refl
read_word_placed f m (Reading r) =
    pick_both (Placed f.hot.regs.at) (ltb r.word 255) _ _ (stays refl) (pick_both (Placed f.hot.regs.at) (ltb 0 r.after) _ _ (read_at_placed f m (next_run r f.settled.translation)) (idle refl))
read_word_placed f m (Writing r) = stays refl
read_word_placed f m (ReadingBuffer n) = pick_both (Placed f.hot.regs.at) (ltb n 255) _ _ (stays refl) (idle refl)
read_word_placed f m (WritingBuffer n) = stays refl
read_word_placed f m (TakingPassword b) = stays refl

write_last_placed : (f : Face) (r : Run) (a : Address) → Placed f.hot.regs.at (write_last_as f r a)
unfolding write_next_of not_found_of
write_last_placed f r (Names x) = pick_both (Placed f.hot.regs.at) (ltb 0 r.after) _ _ (want_at_placed f (next_run r f.settled.translation)) (idle refl)
write_last_placed f r Faults = idle refl

ended_idle : (f : Face) (v : Verdict) → is_idle (ended_as f v).hot.transfer ≡ true
ended_idle f EndsWell = refl
ended_idle f Aborts = refl
ended_idle f Erases = refl

password_idle : (f : Face) (x : Secrets) (p : Purpose) → is_idle (password_last f x p).face.hot.transfer ≡ true
unfolding password_last
password_idle f x p = ended_idle (password_ended f (judgement_of f x p).security) (judgement_of f x p).verdict

write_word_placed : (f : Face) (x : Secrets) (m : List ℕ) (w : ℕ) (t : Transfer) → Placed f.hot.regs.at (write_word_as f x m w t).acted.face
unfolding write_run_of write_last_of write_buffer_word password_word
write_word_placed f x m w Idle = stays refl
write_word_placed f x m w (Reading r) = stays refl
write_word_placed f x m w (Writing r) = pick_both (Placed f.hot.regs.at) (ltb r.word 255) _ _ (stays refl) (write_last_placed (word_in f r.word w) r (located f.settled r.at))
write_word_placed f x m w (ReadingBuffer n) = stays refl
write_word_placed f x m w (WritingBuffer n) = pick_both (Placed f.hot.regs.at) (ltb n 255) _ _ (stays refl) (idle refl)
write_word_placed f x m w (TakingPassword b) = pick_both (λ (a : Acted). Placed f.hot.regs.at a.face) (ltb b.word 255) _ _ (stays refl) (idle (password_idle (word_in f b.word w) x b.purpose))

-- ---- DEV's clauses

clear_alone : (h : Hot) → dev_set h ≡ false → alone_fits h ≡ true
unfolding alone_fits
clear_alone h e = rw e

idle_alone : (h : Hot) → is_idle h.transfer ≡ true → h.signals.held ≡ false → alone_fits h ≡ true
unfolding alone_fits
idle_alone h i e = go (dev_set h) refl
  where
    go : (b : Bool) → dev_set h ≡ b → alone_fits h ≡ true
    go true k = simp (k, e, i)
    go false k = simp k

alone_cases : (dev held idle : Bool) → pick dev (pick held false idle) true ≡ true → (dev ≡ false) ⊎ ((held ≡ false) × (idle ≡ true))
alone_cases true true idle e = absurd (false≢true e)
alone_cases true false idle e = inr (refl, e)
alone_cases false held idle e = inl refl

alone_clauses : (h : Hot) → alone_fits h ≡ true → (dev_set h ≡ false) ⊎ ((h.signals.held ≡ false) × (is_idle h.transfer ≡ true))
unfolding alone_fits
alone_clauses h e = alone_cases (dev_set h) h.signals.held (is_idle h.transfer) e

-- DEV is read off the address
dev_at : (h k : Hot) → k.regs.at ≡ h.regs.at → dev_set h ≡ false → dev_set k ≡ false
unfolding dev_set
dev_at h k e c = ap (λ (a : AddressRegisters). eqb (a.head / 16 % 2) 1) e ∙ c

placed_alone : (h : Hot) (f : Face) → dev_set h ≡ false → f.hot.signals.held ≡ false → Placed h.regs.at f → alone_fits f.hot ≡ true
placed_alone h f c e p = go p.is
  where
    go : (is_idle f.hot.transfer ≡ true) ⊎ (f.hot.regs.at ≡ h.regs.at) → alone_fits f.hot ≡ true
    go (inl i) = idle_alone f.hot i e
    go (inr a) = clear_alone f.hot (dev_at h f.hot a c)

-- where a transfer is open, DEV is clear
pub open_clear : (h : Hot) → alone_fits h ≡ true → is_idle h.transfer ≡ false → dev_set h ≡ false
open_clear h e o = go (alone_clauses h e)
  where
    go : (dev_set h ≡ false) ⊎ ((h.signals.held ≡ false) × (is_idle h.transfer ≡ true)) → dev_set h ≡ false
    go (inl c) = c
    go (inr p) = absurd (false≢true (sym o ∙ p.1))

read_word_open : (f : Face) (m : List ℕ) (t : Transfer) → f.hot.transfer ≡ t → Fits f → alone_fits f.hot ≡ true → is_idle t ≡ false
    → alone_fits (read_word_as f m t).left.hot ≡ true
read_word_open f m t e k a o =
    placed_alone f.hot _ (open_clear f.hot a (ap is_idle e ∙ o)) (read_word_held f m t e k o) (read_word_placed f m t)

read_word_alone : (f : Face) (m : List ℕ) (t : Transfer) → f.hot.transfer ≡ t → Fits f → alone_fits f.hot ≡ true
    → alone_fits (read_word_as f m t).left.hot ≡ true
read_word_alone f m Idle e k a = a
read_word_alone f m (Reading r) e k a = read_word_open f m (Reading r) e k a refl
read_word_alone f m (Writing r) e k a = read_word_open f m (Writing r) e k a refl
read_word_alone f m (ReadingBuffer n) e k a = read_word_open f m (ReadingBuffer n) e k a refl
read_word_alone f m (WritingBuffer n) e k a = read_word_open f m (WritingBuffer n) e k a refl
read_word_alone f m (TakingPassword b) e k a = read_word_open f m (TakingPassword b) e k a refl

write_word_open : (f : Face) (x : Secrets) (m : List ℕ) (w : ℕ) (t : Transfer) → f.hot.transfer ≡ t → Fits f → alone_fits f.hot ≡ true → is_idle t ≡ false
    → alone_fits (write_word_as f x m w t).acted.face.hot ≡ true
write_word_open f x m w t e k a o =
    placed_alone f.hot _ (open_clear f.hot a (ap is_idle e ∙ o)) (write_word_held f x m w t e k o) (write_word_placed f x m w t)

write_word_alone : (f : Face) (x : Secrets) (m : List ℕ) (w : ℕ) (t : Transfer) → f.hot.transfer ≡ t → Fits f → alone_fits f.hot ≡ true
    → alone_fits (write_word_as f x m w t).acted.face.hot ≡ true
write_word_alone f x m w Idle e k a = a
write_word_alone f x m w (Reading r) e k a = write_word_open f x m w (Reading r) e k a refl
write_word_alone f x m w (Writing r) e k a = write_word_open f x m w (Writing r) e k a refl
write_word_alone f x m w (ReadingBuffer n) e k a = write_word_open f x m w (ReadingBuffer n) e k a refl
write_word_alone f x m w (WritingBuffer n) e k a = write_word_open f x m w (WritingBuffer n) e k a refl
write_word_alone f x m w (TakingPassword b) e k a = write_word_open f x m w (TakingPassword b) e k a refl

-- reads change neither address nor transfer nor reset
read_alone : (h : Hot) (n : ℕ) → alone_fits h ≡ true → alone_fits (read_register h n).left ≡ true
unfolding read_register alone_fits dev_set
read_alone h n a =
    pick_both P (eqb n 1) _ _ a (pick_both P (eqb n 2) _ _ a (pick_both P (eqb n 3) _ _ a (pick_both P (eqb n 4) _ _ a
    (pick_both P (eqb n 5) _ _ a (pick_both P (eqb n 6) _ _ a (pick_both P (eqb n 7) _ _ a (pick_both P (eqb n 8) _ _ a a)))))))
  where
    P : Shows Hot → Type 0
    P s = alone_fits s.left ≡ true

-- a register is stored only where nothing is open or held
busy_not : (held idle : Bool) → pick held true (pick idle false true) ≡ false → (held ≡ false) × (idle ≡ true)
busy_not true idle e = absurd (false≢true (sym e))
busy_not false true e = (refl, refl)
busy_not false false e = absurd (false≢true (sym e))

stored_idle : (h : Hot) (n v : ℕ) → h.signals.held ≡ false → is_idle h.transfer ≡ true
    → ((store_register h n v).signals.held ≡ false) × (is_idle (store_register h n v).transfer ≡ true)
unfolding store_register
stored_idle h n v e i =
    pick_both P (eqb n 1) _ _ (e, i) (pick_both P (eqb n 2) _ _ (e, i) (pick_both P (eqb n 3) _ _ (e, i) (pick_both P (eqb n 4) _ _ (e, i) (pick_both P (eqb n 5) _ _ (e, i) (e, i)))))
  where
    P : Hot → Type 0
    P x = (x.signals.held ≡ false) × (is_idle x.transfer ≡ true)

put_alone : (h : Hot) (n v : ℕ) → alone_fits h ≡ true → alone_fits (put_register h n v) ≡ true
unfolding put_register busy_of
put_alone h n v a = go (pick h.signals.held true (pick (is_idle h.transfer) false true)) refl
  where
    go : (b : Bool) → pick h.signals.held true (pick (is_idle h.transfer) false true) ≡ b → alone_fits (pick b h (store_register h n v)) ≡ true
    go true e = a
    go false e =
        let q = busy_not h.signals.held (is_idle h.transfer) e in
        let s = stored_idle h n v q.0 q.1 in
        idle_alone _ s.1 s.0

control_alone : (f : Face) (v : ℕ) → alone_fits f.hot ≡ true → alone_fits (control_of f v).hot ≡ true
unfolding control_of alone_fits dev_set
control_alone f v a = pick_both (λ (g : Face). alone_fits g.hot ≡ true) (srst_of v) _ _ refl (go (alone_clauses f.hot a))
  where
    go : (dev_set f.hot ≡ false) ⊎ ((f.hot.signals.held ≡ false) × (is_idle f.hot.transfer ≡ true)) → pick (eqb (f.hot.regs.at.head / 16 % 2) 1) (is_idle f.hot.transfer) true ≡ true
    go (inl c) = rw c
    go (inr p) = both (eqb (f.hot.regs.at.head / 16 % 2) 1) (is_idle f.hot.transfer) p.1
      where
        both : (b i : Bool) → i ≡ true → pick b i true ≡ true
        both true i e = e
        both false i e = refl

-- 90h leaves no transfer
diagnostic_idle : (f : Face) (m : List ℕ) → f.hot.signals.held ≡ false → is_idle (command_of f m 0x90).hot.transfer ≡ true
unfolding command_of stations_of may_run_of decode_of coded_of diagnostic_of
diagnostic_idle f m h = ap (λ (b : Bool). is_idle (pick b f (stations_of (begun_of f) m 0x90)).hot.transfer) h

-- a held reset leaves everything
held_stays : (f : Face) (m : List ℕ) (v : ℕ) → f.hot.signals.held ≡ true → command_of f m v ≡ f
unfolding command_of
held_stays f m v e = ap (λ (b : Bool). pick b f (stations_of (begun_of f) m v)) e

command_alone : (f : Face) (m : List ℕ) (v : ℕ) → Fits f → alone_fits f.hot ≡ true → (dev_set f.hot ≡ false) ⊎ (v ≡ 0x90) → alone_fits (command_of f m v).hot ≡ true
command_alone f m v k a c = go f.hot.signals.held refl c
  where
    go : (b : Bool) → f.hot.signals.held ≡ b → (dev_set f.hot ≡ false) ⊎ (v ≡ 0x90) → alone_fits (command_of f m v).hot ≡ true
    go true h c = ap (λ (g : Face). alone_fits g.hot) (held_stays f m v h) ∙ a
    go false h (inl d) = placed_alone f.hot _ d (command_held f m v k h) (command_placed f m v)
    go false h (inr e) = idle_alone _ (ap (λ (n : ℕ). is_idle (command_of f m n).hot.transfer) e ∙ diagnostic_idle f m h) (command_held f m v k h)

-- a command that is not ignored: DEV is clear or it is 90h
answered_cases : (seven ninety dev : Bool) → pick (pick seven (not ninety) false) dev false ≡ false → seven ≡ true → (dev ≡ false) ⊎ (ninety ≡ true)
answered_cases true true dev e s = inr refl
answered_cases true false dev e s = inl e
answered_cases false ninety dev e s = absurd (false≢true s)

write_register_alone : (f : Face) (m : List ℕ) (n v : ℕ) → Fits f → alone_fits f.hot ≡ true → ignored_of f.hot (WriteRegister n v) ≡ false
    → alone_fits (write_register_of f m n v).left.hot ≡ true
unfolding write_register_of ignored_of
write_register_alone f m n v k a i =
    pick_each (λ (t : Shows Face). alone_fits t.left.hot ≡ true) (within 1 6 n) _ _ (λ w. put_alone f.hot n v a)
    (λ w. pick_each (λ (t : Shows Face). alone_fits t.left.hot ≡ true) (eqb n 7) _ _ (λ e. command_alone f m v k a (named (answered_cases (eqb n 7) (eqb v 0x90) (dev_set f.hot) i e)))
    (λ e. pick_each (λ (t : Shows Face). alone_fits t.left.hot ≡ true) (eqb n 8) _ _ (λ z. control_alone f v a) (λ z. a)))
  where
    named : (dev_set f.hot ≡ false) ⊎ (eqb v 0x90 ≡ true) → (dev_set f.hot ≡ false) ⊎ (v ≡ 0x90)
    named (inl d) = inl d
    named (inr e) = inr (eqb-true v 0x90 e)

act_alone : (f : Face) (x : Secrets) (m : List ℕ) (a : Action) → Fits f → alone_fits f.hot ≡ true → ignored_of f.hot a ≡ false
    → alone_fits (act_of f x m a).acted.face.hot ≡ true
unfolding act_of read_word_of write_word_of
act_alone f x m (ReadRegister n) k a i = read_alone f.hot n a
act_alone f x m (WriteRegister n v) k a i = write_register_alone f m n v k a i
act_alone f x m ReadWord k a i = read_word_alone f m f.hot.transfer refl k a
act_alone f x m (WriteWord w) k a i = write_word_alone f x m w f.hot.transfer refl k a
act_alone f x m HardwareReset k a i = idle_alone _ refl refl
act_alone f x m PowerOn k a i = idle_alone _ refl refl
act_alone f x m Line k a i = a

-- ---- the device

shaped_of_law : (d : Device) → disk_fits d.face ≡ true → alone_fits d.face.hot ≡ true → shaped_of d ≡ true
unfolding shaped_of
shaped_of_law d p q = rw (p, q)

-- every action on a device in shape leaves one in shape
pub alone_shaped : (d : Device) (m : List ℕ) (a : Action) → shaped_of d ≡ true → shaped_of (alone_of d m a).outcome.device ≡ true
unfolding alone_of
alone_shaped d m a s = go (ignored_of d.face.hot a) refl
  where
    k : Fits d.face
    k = shape_clauses d.face (shaped_disk d s).0

    go : (b : Bool) → ignored_of d.face.hot a ≡ b → shaped_of (alone_of d m a).outcome.device ≡ true
    go true e = rw e s
    go false e =
        rw e (shaped_of_law _ (clauses_shape _ (act_fits d.face d.secrets m a k)) (act_alone d.face d.secrets m a k (shaped_disk d s).1 e))

-- every call of the host keeps the shape, over whatever memory
pub step_shaped : (d : Device) (m : List ℕ) (a : Action) → shaped_of d ≡ true → shaped_of (step_of d m a).outcome.device ≡ true
unfolding step_of
step_shaped d m a s =
    either_way (eqb (length m) (memory_length d))
    (λ e. rw (s, e) (alone_shaped d m a s))
    (λ e. rw (s, e) s)

-- setup's device, where it is not refused
pub fresh_shaped : (g : Geometry) (i : Identity) (p : List ℕ) → geometry_fits g ≡ true → identity_fits i ≡ true → shaped_of (fresh_of g i p) ≡ true
unfolding security_fits
fresh_shaped g i p e h = shaped_of_law _ (clauses_shape _ (power_on_fits (with_settled zero_face (fresh_settled g i)) settled)) (idle_alone _ refl refl)
  where
    secure : security_fits (fresh_settled g i).security ≡ true
    secure = refl

    settled : settled_fits (fresh_settled g i) ≡ true
    settled = clauses_settled (fresh_settled g i) record { geometry = e; identity = h; translation = factory_allowed g e; security = secure }

-- a refused setup's record is out of shape
pub zero_out_of_shape : shaped_of zero_device ≡ false
unfolding shaped_of parts_fit settled_fits geometry_fits within
zero_out_of_shape = refl

-- a call of the host: the memory that it lends, and its action
pub record Call : Type 0 where
  pub memory : List ℕ
  pub action : Action

-- the device after a list of calls
unfoldable pub reached : Device → List Call → Device
reached d [] = d
reached d (c ∷ cs) = reached (step_of d c.memory c.action).outcome.device cs

pub reached_shaped : (d : Device) (cs : List Call) → shaped_of d ≡ true → shaped_of (reached d cs) ≡ true
unfolding reached
reached_shaped d [] s = s
reached_shaped d (c ∷ cs) s = reached_shaped (step_of d c.memory c.action).outcome.device cs (step_shaped d c.memory c.action s)
