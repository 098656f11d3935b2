-- A device that does nothing keeps the secret too, so demand 3 alone would let it pass; that a right password opens does not.
use mathlib.Core.Path.{◌≡◌, refl, sym, ap, ◌∙◌}
use mathlib.Core.Bool.{false}
use mathlib.Core.List.{List, [], ◌∷◌}
use Prim.Native.Nat.{ℕ}
use native.Mathlib.Omega.{arith}
use Rattle.base.proofs.Tests.{false≢true}
use Rattle.lock.specs.Lock.{is_open}
use Rattle.face.specs.declared.Answer.TheVariants.{Done}
use Rattle.face.specs.declared.Action.{Action}
use Rattle.device.specs.declared.Device.{Device}
use Rattle.laws.proofs.ReadBack.{put_all}
use Rattle.laws.specs.Sessions.{Given, given, Session, led, session_of}
use Rattle.room.specs.Claims.{security_in, KeepsTheSecret, RightWords, OpensBeforeFive, unlock_with}
use Rattle.room.proofs.Running.{running_on_bytes}
use Rattle.runs.proofs.OneSector.{disk, passwords, filled, block_of, guarded}
use Rattle.room.proofs.WrongRules.{says_nothing}

-- 0 for each action
nothings : List Action → List Given
nothings [] = []
nothings (a ∷ l) = given Done 0 ∷ nothings l

silent_session : (d : Device) (m : List ℕ) (l : List Action) → ◌≡◌ {A = Session} (session_of says_nothing d m l) record { answers = nothings l; device = d; sectors = m }
unfolding says_nothing session_of nothings
silent_session d m [] = refl
silent_session d m (a ∷ l) = ap (led (says_nothing d m a)) (silent_session d m l)

pub says_nothing_keeps_the_secret : KeepsTheSecret says_nothing
says_nothing_keeps_the_secret d e m n l g h o p q =
    let s = silent_session d m l in
    let t = silent_session e n l in
    record {
      answers = ap (λ (x : Session). x.answers) s ∙ sym (ap (λ (x : Session). x.answers) t);
      first = record { sectors = ap (λ (x : Session). x.sectors) s; passwords = ap (λ (x : Session). x.device.secrets) s };
      second = record { sectors = ap (λ (x : Session). x.sectors) t; passwords = ap (λ (x : Session). x.device.secrets) t };
    }

right : RightWords disk (block_of 0 0x0101 0x0101)
unfolding running_on_bytes put_all
right = record { whole = refl; right = refl; level = refl }

pub says_nothing_never_opens : OpensBeforeFive says_nothing → ⊥
unfolding running_on_bytes says_nothing
says_nothing_never_opens k =
    let g = guarded says_nothing false (passwords 1 7) (filled 0) refl refl in
    let e = k disk (filled 0) [] (block_of 0 0x0101 0x0101) g.ready g.started (omega arith) refl right in
    false≢true
    (sym (ap (λ (s : Session). is_open (security_in s.device).lock) (silent_session disk (filled 0) (unlock_with (block_of 0 0x0101 0x0101)))) ∙ ap is_open e)
