-- With no attempts left no block can be open that would be accepted, so a locked device goes the guest's way until power-on or hardware reset, and F2h aborts.
use mathlib.Core.Path.{◌≡◌, refl, sym, ap, ◌∙◌}
use mathlib.Core.Bool.{Bool, true, false, not}
use mathlib.Core.List.{List, [], ◌∷◌}
use Prim.Native.Nat.{ℕ, ◌+◌, ◌≤◌}
use native.Mathlib.Omega.{arith}
use borrow.Author.Tests.{eq-eqb}
use Rattle.base.specs.Choice.{pick, within}
use Rattle.base.proofs.Tests.{false≢true, pick_both, either_way}
use Rattle.lock.specs.Lock.{is_locked, is_frozen, exhausted_of, cannot_erase}
use Rattle.lock.specs.declared.Security.{Security}
use Rattle.lock.specs.declared.Secrets.{Secrets}
use Rattle.lock.specs.declared.Purpose.{Purpose}
use Rattle.lock.specs.declared.Purpose.TheVariants.{Set, Unlock, Erase, Disable}
use Rattle.codes.specs.Commands.{coded_of, decode_of}
use Rattle.codes.specs.MayRun.{may_run_of}
use Rattle.face.specs.Reads.{status_of}
use Rattle.face.specs.declared.Signals.{Signals}
use Rattle.face.specs.declared.Hot.{Hot}
use Rattle.face.specs.declared.Face.{Face}
use Rattle.face.specs.declared.Action.{Action}
use Rattle.face.specs.declared.Action.TheVariants.{WriteRegister}
use Rattle.transfers.specs.Sectors.{abort_face}
use Rattle.commands.specs.Gate.{begun_of, abort_at_once, stations_of, command_of}
use Rattle.shape.specs.Shape.{password_fits, transfer_fits}
use Rattle.disk.specs.Actions.{write_register_of, act_of}
use Rattle.device.specs.Alone.{Step}
use Rattle.device.specs.Host.{Ready, step_of}
use Rattle.device.specs.declared.Device.{Device}
use Rattle.laws.proofs.Shape.{guard, drop_leaves}
use Rattle.laws.proofs.Settling.{drop_settles}
use Rattle.laws.proofs.Steps.{ready_fits, ready_step, clear_acts}
use Rattle.laws.specs.Sessions.{Session, session_of}
use Rattle.room.specs.Blocks.{block_accepted, accepted_of, mismatch_of, restarts, counted_of, never_restarts}
use Rattle.room.specs.Claims.{security_in, Aborted, UnlockAborts}
use Rattle.room.proofs.Completed.{completed}
use Rattle.room.proofs.Kept.{guest_locked}
use Rattle.room.proofs.GuestStep.{guest_leaves, step_guest}
use Rattle.room.proofs.Secrecy.{locked_enabled, guest_left, guest_ready}
use Rattle.room.proofs.Counting.{left_closed, Five, unlock_fits, step_five}

-- ---- nothing is accepted

-- in shape with no attempts left, no block is open that would be accepted
none_refuses : (s : Security) (x : Secrets) (p : Purpose) (b : List ℕ) → exhausted_of s ≡ true → password_fits s p ≡ true → block_accepted s x p b ≡ false
unfolding password_fits cannot_erase
none_refuses s x Set b e k = refl
none_refuses s x Unlock b e k = absurd (false≢true (sym (unlock_fits s k) ∙ e))
none_refuses s x Erase b e k = absurd (unfit (is_frozen s.lock) s.prepared (simp e at k))
  where
    unfit : (frozen prepared : Bool) → pick frozen false (not (pick prepared true true)) ≡ true → ⊥
    unfit true p q = false≢true q
    unfit false true q = false≢true q
    unfit false false q = false≢true q
none_refuses s x Disable b e k = refl

-- locked, in shape, and five mismatches counted
pub record Shut (d : Device) (m : List ℕ) : Type 0 where
  pub ready : Ready d m
  pub locked : is_locked (security_in d).lock ≡ true
  pub spent : Five (security_in d) 5

shut_none : {d : Device} {m : List ℕ} → Shut d m → (security_in d).attempts ≡ 0
shut_none {d} k = let q : (security_in d).attempts + 5 ≡ 5 = k.spent.is in omega arith

shut_exhausted : {d : Device} {m : List ℕ} → Shut d m → exhausted_of (security_in d) ≡ true
unfolding exhausted_of
shut_exhausted {d} k = eq-eqb _ _ (shut_none k)

shut_refuses : (d : Device) (m : List ℕ) (a : Action) → Shut d m → accepted_of d a ≡ false
unfolding accepted_of
shut_refuses d m a k =
    either_way (accepted_of d a)
    (λ e.
    let c = completed (block_accepted (security_in d) d.secrets) d.face a e in
    let fits = sym (ap (transfer_fits d.face.settled) c.opened) ∙ (ready_fits d m k.ready).fits in
    absurd (false≢true (sym (none_refuses (security_in d) d.secrets c.block.purpose _ (shut_exhausted k) fits) ∙ c.passes)))
    (λ e. e)

-- ---- so it stays shut

-- only a start takes mismatches back
counted_grows : (n : ℕ) (d : Device) (a : Action) → restarts a ≡ false → n ≤ counted_of n d a
unfolding counted_of
counted_grows n d a e = rw e (pick_both (λ (k : ℕ). n ≤ k) (mismatch_of d a) _ _ (omega arith) (omega arith))

-- five mismatches, and no attempt left
pub five_spent : (s : Security) (n : ℕ) → 5 ≤ n → Five s n → Five s 5
five_spent s n h p = record { is = let q : s.attempts + n ≡ 5 = p.is in omega arith }

pub shut_step : (d : Device) (m : List ℕ) (a : Action) → Shut d m → step_of d m a ≡ guest_leaves d m a
shut_step d m a k = step_guest d m a k.ready k.locked (shut_refuses d m a k)

shut_stays : (d : Device) (m : List ℕ) (a : Action) → Shut d m → restarts a ≡ false → Shut (guest_left d a) m
shut_stays d m a k e =
    let s = shut_step d m a k in
    let five = step_five d m a 5 k.ready k.spent in
    record {
      ready = guest_ready d m a k.ready s;
      locked = guest_locked d.face a k.locked (locked_enabled d m k.ready k.locked);
      spent = five_spent _ (counted_of 5 d a) (counted_grows 5 d a e) (moved s five);
    }
  where
    moved : step_of d m a ≡ guest_leaves d m a → Five (security_in (step_of d m a).outcome.device) (counted_of 5 d a) → Five (security_in (guest_left d a)) (counted_of 5 d a)
    moved s p = record { is = sym (ap (λ (t : Step). (security_in t.outcome.device).attempts + counted_of 5 d a) s) ∙ p.is }

-- what a session without a start leaves of it
pub record StaysShut (d : Device) (m : List ℕ) (t : Session) : Type 0 where
  pub shut : Shut t.device t.sectors
  pub sectors : t.sectors ≡ m
  pub passwords : t.device.secrets ≡ d.secrets

pub shut_session : (d : Device) (m : List ℕ) (l : List Action) → Shut d m → never_restarts l ≡ true → StaysShut d m (session_of step_of d m l)
unfolding session_of never_restarts
shut_session d m [] k e = record { shut = k; sectors = refl; passwords = refl }
shut_session d m (a ∷ l) k e =
    let q = guard (restarts a) (never_restarts l) e in
    let t = shut_session (guest_left d a) m l (shut_stays d m a k q.0) q.1 in
    rw (shut_step d m a k) (record { shut = t.shut; sectors = t.sectors; passwords = t.passwords })

-- ---- F2h

stations_abort : (f : Face) (m : List ℕ) → exhausted_of f.settled.security ≡ true → stations_of f m 0xF2 ≡ abort_face f
unfolding stations_of decode_of coded_of abort_at_once
stations_abort f m e = rw e (pick_both (λ (g : Face). g ≡ abort_face f) (may_run_of 0xF2 f.settled.security.lock) _ _ refl refl)

aborted : (h : Hot) (f : Face) → h ≡ (abort_face f).hot → f.hot.signals.held ≡ false → Aborted h
unfolding status_of
aborted h f e q = rw e (record { error = refl; status = rw q; closed = refl })

command_aborts : (f : Face) (m : List ℕ) → f.settled.security.attempts ≡ 0 → f.hot.signals.held ≡ false → Aborted (command_of f m 0xF2).hot
unfolding command_of begun_of exhausted_of
command_aborts f m e h =
    aborted _ (begun_of f)
    (ap (λ (b : Bool). (pick b f (stations_of (begun_of f) m 0xF2)).hot) h
    ∙ ap (λ (g : Face). g.hot) (stations_abort (begun_of f) m (eq-eqb _ _ (drop_settles (left_closed 0) f e))))
    (ap (λ (s : Signals). s.held) (drop_leaves f).signals ∙ h)

pub unlock_aborts : (d : Device) (m : List ℕ) → Shut d m → UnlockAborts step_of d m
unfolding act_of write_register_of within
unlock_aborts d m k h q =
    rw (ready_step d m (WriteRegister 7 0xF2) k.ready ∙ clear_acts d m (WriteRegister 7 0xF2) q) (command_aborts d.face m (shut_none k) h)
