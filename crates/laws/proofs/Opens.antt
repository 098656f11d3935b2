-- The right password opens, and an accepted ERASE UNIT leaves all sectors zero and security off, seen from the host's call.
use mathlib.Core.Bool.{true, false}
use mathlib.Core.Path.{◌≡◌, refl, ap, ◌∙◌}
use mathlib.Core.List.{List}
use Prim.Native.Nat.{ℕ, ◌≤◌}
use borrow.Author.Tests.{eq-eqb, le-ltb}
use Rattle.block.specs.Sectors.{zero_block, zeroed}
use Rattle.block.specs.Words.{word_put}
use Rattle.lock.specs.Lock.{is_locked, unprepared_of}
use Rattle.judging.specs.Judging.{opened_of, disabled_of, judged, accepts_of, judge_of}
use Rattle.lock.specs.Passwords.{zero_password}
use Rattle.judging.specs.Passwords.{with_user}
use Rattle.judging.specs.declared.Judged.{Judged}
use Rattle.lock.specs.declared.Purpose.{Purpose}
use Rattle.lock.specs.declared.Purpose.TheVariants.{Unlock, Erase}
use Rattle.judging.specs.declared.Verdict.{Verdict}
use Rattle.judging.specs.declared.Verdict.TheVariants.{EndsWell, Aborts, Erases}
use Rattle.judging.proofs.Opening.{SendsUser, SendsMaster, user_opens, master_opens, erases}
use Rattle.face.specs.Face.{with_hot}
use Rattle.face.specs.declared.Face.{Face}
use Rattle.face.specs.declared.PasswordBlock.{PasswordBlock}
use Rattle.face.specs.declared.Transfer.{Transfer}
use Rattle.face.specs.declared.Transfer.TheVariants.{TakingPassword}
use Rattle.face.specs.declared.Action.TheVariants.{WriteWord}
use Rattle.fastpath.specs.Dev.{ignored_of}
use Rattle.transfers.specs.Words.{word_in}
use Rattle.password.specs.Passwords.{password_ended, ended_as, sectors_as, judged_acted, password_last, password_last_sectors, password_word, password_word_sectors}
use Rattle.effects.specs.Effects.{effect}
use Rattle.disk.specs.Actions.{write_word_as, write_word_of, act_of}
use Rattle.device.specs.Alone.{Step, step_as, alone_of}
use Rattle.device.specs.Host.{Ready, step_of}
use Rattle.device.specs.declared.Device.{Device}

-- a password command ends in the hot part alone
pub ended_hot : (f : Face) (v : Verdict) → ended_as f v ≡ with_hot f (ended_as f v).hot
ended_hot f EndsWell = refl
ended_hot f Aborts = refl
ended_hot f Erases = refl

-- the last word of a password block is on its way
pub record LastWord (d : Device) (p : Purpose) (b : PasswordBlock) : Type 0 where
  pub opened : d.face.hot.transfer ≡ TakingPassword b
  pub purpose : b.purpose ≡ p
  pub last : 255 ≤ b.word

-- the block once that word w is in it
abbrev pub block_with : Device → PasswordBlock → ℕ → List ℕ
block_with d b w = word_put d.face.buffer b.word w

-- the disk's step by a judgement
abbrev pub judged_step : Device → List ℕ → PasswordBlock → ℕ → Judged → Step
judged_step d m b w j = step_as (effect (judged_acted (word_in d.face b.word w) j) (sectors_as m j.verdict))

word_judged : (d : Device) (m : List ℕ) (b : PasswordBlock) (w : ℕ) → 255 ≤ b.word
    → step_as (write_word_as d.face d.secrets m w (TakingPassword b)) ≡ judged_step d m b w (judge_of b.purpose d.face.settled.security d.secrets (block_with d b w))
unfolding password_word password_word_sectors password_last password_last_sectors
word_judged d m b w h = rw (le-ltb b.word 255 h)

-- the step at the last word is what the judgement of the whole block leaves
pub last_word : (d : Device) (m : List ℕ) (p : Purpose) (b : PasswordBlock) (w : ℕ) → Ready d m → LastWord d p b
    → step_of d m (WriteWord w) ≡ judged_step d m b w (judge_of p d.face.settled.security d.secrets (block_with d b w))
unfolding step_of alone_of ignored_of act_of write_word_of
last_word d m p b w k l =
    simp (k.shaped, eq-eqb _ _ k.long)
    (ap (λ (t : Transfer). step_as (write_word_as d.face d.secrets m w t)) l.opened ∙ word_judged d m b w l.last
    ∙ ap (λ (q : Purpose). judged_step d m b w (judge_of q d.face.settled.security d.secrets (block_with d b w))) l.purpose)

-- the face that a judgement leaves, but for its hot part: settings as judged, the buffer zero
abbrev pub judged_face : Device → PasswordBlock → ℕ → Judged → Face
judged_face d b w j = password_ended (word_in d.face b.word w) j.security

judged_face_law : (d : Device) (m : List ℕ) (b : PasswordBlock) (w : ℕ) (j : Judged) (s : Step) → s ≡ judged_step d m b w j
    → s.outcome.device.face ≡ with_hot (judged_face d b w j) s.outcome.device.face.hot
judged_face_law d m b w j s e = rw e (ended_hot (judged_face d b w j) j.verdict)

pub last_word_face : (d : Device) (m : List ℕ) (p : Purpose) (b : PasswordBlock) (w : ℕ) → Ready d m → LastWord d p b
    → (step_of d m (WriteWord w)).outcome.device.face
    ≡ with_hot (judged_face d b w (judge_of p d.face.settled.security d.secrets (block_with d b w))) (step_of d m (WriteWord w)).outcome.device.face.hot
last_word_face d m p b w k l = judged_face_law d m b w (judge_of p d.face.settled.security d.secrets (block_with d b w)) _ (last_word d m p b w k l)

-- what UNLOCK's match leaves: open, nothing else of the settings changed, sectors and passwords kept, the buffer zero, answer 0
pub record Opened (d : Device) (m : List ℕ) (s : Step) : Type 0 where
  pub number : s.outcome.number ≡ 0
  pub security : s.outcome.device.face.settled.security ≡ opened_of d.face.settled.security
  pub secrets : s.outcome.device.secrets ≡ d.secrets
  pub buffer : s.outcome.device.face.buffer ≡ zero_block
  pub sectors : s.sectors ≡ m

opened_by : (d : Device) (m : List ℕ) (b : PasswordBlock) (w : ℕ) (s : Step) → s ≡ judged_step d m b w (judged (opened_of d.face.settled.security) d.secrets EndsWell) → Opened d m s
opened_by d m b w s e =
    record {
      number = ap (λ (t : Step). t.outcome.number) e;
      security = ap (λ (t : Step). t.outcome.device.face.settled.security) e;
      secrets = ap (λ (t : Step). t.outcome.device.secrets) e;
      buffer = ap (λ (t : Step). t.outcome.device.face.buffer) e;
      sectors = ap (λ (t : Step). t.sectors) e;
    }

-- the user password opens a locked device at both levels
pub right_user_opens : (d : Device) (m : List ℕ) (b : PasswordBlock) (w : ℕ) → Ready d m → LastWord d Unlock b → is_locked d.face.settled.security.lock ≡ true
    → SendsUser d.secrets (block_with d b w) → Opened d m (step_of d m (WriteWord w))
right_user_opens d m b w k l h u =
    opened_by d m b w _ (last_word d m Unlock b w k l ∙ ap (judged_step d m b w) (user_opens d.face.settled.security d.secrets (block_with d b w) h u))

-- the master password opens it at level High
pub right_master_opens : (d : Device) (m : List ℕ) (b : PasswordBlock) (w : ℕ) → Ready d m → LastWord d Unlock b → is_locked d.face.settled.security.lock ≡ true
    → d.face.settled.security.maximum ≡ false → SendsMaster d.secrets (block_with d b w) → Opened d m (step_of d m (WriteWord w))
right_master_opens d m b w k l h x u =
    opened_by d m b w _ (last_word d m Unlock b w k l ∙ ap (judged_step d m b w) (master_opens d.face.settled.security d.secrets (block_with d b w) h x u))

-- what an accepted ERASE UNIT leaves: every sector zero, security off, level High, open, the preparation ended, the user password zero
pub record Erased (d : Device) (m : List ℕ) (s : Step) : Type 0 where
  pub number : s.outcome.number ≡ 0
  pub sectors : s.sectors ≡ zeroed m
  pub security : s.outcome.device.face.settled.security ≡ disabled_of (unprepared_of d.face.settled.security)
  pub secrets : s.outcome.device.secrets ≡ with_user d.secrets zero_password
  pub buffer : s.outcome.device.face.buffer ≡ zero_block

pub accepted_erases : (d : Device) (m : List ℕ) (b : PasswordBlock) (w : ℕ) → Ready d m → LastWord d Erase b
    → accepts_of d.face.settled.security d.secrets (block_with d b w) ≡ true → Erased d m (step_of d m (WriteWord w))
accepted_erases d m b w k l h =
    let e = last_word d m Erase b w k l ∙ ap (judged_step d m b w) (erases d.face.settled.security d.secrets (block_with d b w) h) in
    record {
      number = ap (λ (t : Step). t.outcome.number) e;
      sectors = ap (λ (t : Step). t.sectors) e;
      security = ap (λ (t : Step). t.outcome.device.face.settled.security) e;
      secrets = ap (λ (t : Step). t.outcome.device.secrets) e;
      buffer = ap (λ (t : Step). t.outcome.device.face.buffer) e;
    }
