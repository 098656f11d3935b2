-- Demand 3 is about something: devices as it names them get real data while locked, and where one of two accepts a block, their answers do differ.
use Prim.Native.Nat.{ℕ, suc}
use mathlib.Core.Path.{◌≡◌, refl, sym, ap, ◌∙◌}
use mathlib.Core.Bool.{true, false}
use mathlib.Core.List.{List, [], ◌∷◌, ◌++◌}
use native.Mathlib.Omega.{arith}
use lib.ListN.{get_or, replicate}
use Rattle.face.specs.declared.Answer.TheVariants.{Done}
use Rattle.face.specs.declared.Action.{Action}
use Rattle.face.specs.declared.Action.TheVariants.{WriteRegister, ReadWord, WriteWord}
use Rattle.device.specs.Host.{step_of}
use Rattle.device.specs.declared.Device.{Device}
use Rattle.laws.specs.Sessions.{Given, given, session_of}
use Rattle.room.specs.Blocks.{accepted_of, never_accepted}
use Rattle.room.specs.Claims.{Guarded, AlikeOutside}
use Rattle.room.proofs.Running.{running_on_bytes}
use Rattle.laws.specs.Sessions.{last_value}
use Rattle.runs.proofs.OneSector.{disk, locked_at, passwords, filled, block_of, but_the_last, unlocking, unlocking_then_status, guarded, alike_at}

-- ---- the premise is not empty, and what is equal is not nothing

-- demand 3's two devices over their sectors, different in all that may differ, and actions of which they accept no block: both give these answers
pub record BothAnswer (d e : Device) (m n : List ℕ) (l : List Action) (answers : List Given) : Type 0 where
  pub first : Guarded step_of d m
  pub second : Guarded step_of e n
  pub alike : AlikeOutside d e
  pub other_sectors : m ≡ n → ⊥
  pub other_user : d.secrets.user ≡ e.secrets.user → ⊥
  pub other_master : d.secrets.master ≡ e.secrets.master → ⊥
  pub first_never : never_accepted step_of d m l ≡ true
  pub second_never : never_accepted step_of e n l ≡ true
  pub first_answers : (session_of step_of d m l).answers ≡ answers
  pub second_answers : (session_of step_of e n l).answers ≡ answers

-- lists of different bytes
unlike : (k u v : ℕ) → (u ≡ v → ⊥) → replicate (suc k) u ≡ replicate (suc k) v → ⊥
unlike k u v h e = h (ap (λ (l : List ℕ). get_or l 0 0) e)

-- IDENTIFY, two of its words, UNLOCK with a password that neither has, and Status: 0040h, one cylinder, 51h
pub both_answer : BothAnswer disk (locked_at false (passwords 2 8)) (filled 1) (filled 2)
    (WriteRegister 7 0xEC ∷ ReadWord ∷ ReadWord ∷ unlocking_then_status (block_of 0 0x0303 0x0303))
    (given Done 0 ∷ given Done 0x0040 ∷ given Done 1 ∷ replicate 257 (given Done 0) ++ (given Done 0x51 ∷ []))
unfolding running_on_bytes
both_answer =
    record {
      first = guarded step_of false (passwords 1 7) (filled 1) refl refl;
      second = guarded step_of false (passwords 2 8) (filled 2) refl refl;
      alike = alike_at false (passwords 1 7) (passwords 2 8);
      other_sectors = unlike 511 1 2 (λ e. omega arith);
      other_user = unlike 31 1 2 (λ e. omega arith);
      other_master = unlike 31 7 8 (λ e. omega arith);
      first_never = refl;
      second_never = refl;
      first_answers = refl;
      second_answers = refl;
    }

-- ---- the premise is needed

-- of two devices that differ in the user password alone, one accepts the last word of a block and opens, the other does not
pub record OneAccepts (d e : Device) (m : List ℕ) (ws : List ℕ) (w : ℕ) : Type 0 where
  pub first : Guarded step_of d m
  pub second : Guarded step_of e m
  pub alike : AlikeOutside d e
  pub same_master : d.secrets.master ≡ e.secrets.master
  pub accepts : accepted_of (session_of step_of d m (unlocking ws)).device (WriteWord w) ≡ true
  pub refuses : accepted_of (session_of step_of e m (unlocking ws)).device (WriteWord w) ≡ false
  pub opens : last_value (session_of step_of d m (unlocking_then_status (ws ++ (w ∷ [])))).answers ≡ 0x50
  pub aborts : last_value (session_of step_of e m (unlocking_then_status (ws ++ (w ∷ [])))).answers ≡ 0x51

pub one_accepts : OneAccepts disk (locked_at false (passwords 2 7)) (filled 0) (but_the_last 0x0101) 0
unfolding running_on_bytes
one_accepts =
    record {
      first = guarded step_of false (passwords 1 7) (filled 0) refl refl;
      second = guarded step_of false (passwords 2 7) (filled 0) refl refl;
      alike = alike_at false (passwords 1 7) (passwords 2 7);
      same_master = refl;
      accepts = refl;
      refuses = refl;
      opens = refl;
      aborts = refl;
    }

-- so their answers are not the same
pub answers_differ : {d e : Device} {m ws : List ℕ} {w : ℕ} → OneAccepts d e m ws w
    → (session_of step_of d m (unlocking_then_status (ws ++ (w ∷ [])))).answers ≡ (session_of step_of e m (unlocking_then_status (ws ++ (w ∷ [])))).answers → ⊥
answers_differ o e =
    let q : ◌≡◌ {A = ℕ} 0x50 0x51 = sym o.opens ∙ ap last_value e ∙ o.aborts in
    omega arith
