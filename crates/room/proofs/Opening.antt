-- A right block opens a locked device with attempts left, from wherever a guest left off: a software reset makes the way free, F2h takes the block, its 256th word is judged.
use mathlib.Core.Path.{◌≡◌, refl, sym, ap, ◌∙◌}
use mathlib.Core.Bool.{true, false}
use mathlib.Core.List.{List, [], ◌∷◌, map}
use Prim.Native.Nat.{ℕ, ◌+◌, ◌<◌}
use native.Mathlib.Omega.{arith}
use lib.ListN.{length}
use borrow.Author.Tests.{lt-ltb}
use Rattle.base.specs.Choice.{within}
use Rattle.block.specs.Passwords.{password_of}
use Rattle.lock.specs.Lock.{is_locked, unprepared_of}
use Rattle.lock.specs.declared.Lock.{Lock}
use Rattle.lock.specs.declared.Lock.TheVariants.{Open, Locked, Frozen}
use Rattle.lock.specs.declared.Security.{Security}
use Rattle.lock.specs.declared.Secrets.{Secrets}
use Rattle.lock.specs.declared.Purpose.TheVariants.{Unlock}
use Rattle.lock.proofs.Sound.{attempts_left}
use Rattle.judging.specs.Passwords.{picked_of}
use Rattle.judging.specs.Judging.{opened_of, judged, master_at_maximum, unlock_locked, unlock_of, judge_of}
use Rattle.judging.specs.declared.Verdict.TheVariants.{EndsWell}
use Rattle.judging.proofs.Opening.{matches_right}
use Rattle.codes.specs.Commands.{coded_of, decode_of}
use Rattle.codes.specs.MayRun.{may_run_of}
use Rattle.face.specs.Face.{start_hot, with_transfer, with_hot}
use Rattle.face.specs.Ends.{cleared_of}
use Rattle.face.specs.declared.PasswordBlock.{PasswordBlock}
use Rattle.face.specs.declared.Transfer.{Transfer}
use Rattle.face.specs.declared.Transfer.TheVariants.{TakingPassword}
use Rattle.face.specs.declared.Answer.TheVariants.{Done}
use Rattle.face.specs.declared.Action.{Action}
use Rattle.face.specs.declared.Action.TheVariants.{WriteRegister, WriteWord}
use Rattle.resets.specs.Resets.{dropped_of}
use Rattle.resets.specs.Control.{srst_of, nien_of, soft_reset_of, control_of}
use Rattle.fastpath.specs.Dev.{dev_set, ignored_of}
use Rattle.commands.specs.Others.{take_password_of}
use Rattle.commands.specs.Gate.{begun_of, stations_of, command_of}
use Rattle.password.specs.Passwords.{password_more, password_word, password_word_sectors}
use Rattle.disk.specs.Actions.{write_register_of, write_word_as, write_word_of, act_of}
use Rattle.device.specs.Alone.{device_of, Step, shown, step_as, alone_of}
use Rattle.device.specs.Host.{Ready, step_of}
use Rattle.device.specs.declared.Device.{Device}
use Rattle.laws.proofs.ReadBack.{put_all}
use Rattle.laws.proofs.Opens.{judged_step, block_with, last_word}
use Rattle.laws.proofs.Steps.{ready_step, ready_after}
use Rattle.laws.specs.Sessions.{session_of}
use Rattle.room.specs.Claims.{security_in, unlock_with, RightWords}

-- ---- the words of the block

-- a right block that is judged opens
judge_opens : (s : Security) (x : Secrets) (b : List ℕ) → is_locked s.lock ≡ true → master_at_maximum s b ≡ false → password_of b ≡ picked_of x b
    → judge_of Unlock s x b ≡ judged (opened_of s) x EndsWell
unfolding judge_of unlock_of unlock_locked
judge_opens s x b h p e = simp (h, p, matches_right x b e)

-- a word but the last goes into the buffer
abbrev taking : Device → PasswordBlock → ℕ → Device
taking d b w = device_of (password_more d.face b w) d.secrets

word_taken : (d : Device) (m : List ℕ) (b : PasswordBlock) (w : ℕ) → b.word < 255 → step_as (write_word_as d.face d.secrets m w (TakingPassword b)) ≡ shown (taking d b w) m Done 0
unfolding password_word password_word_sectors
word_taken d m b w h = rw (lt-ltb b.word 255 h)

more_step : (d : Device) (m : List ℕ) (b : PasswordBlock) (w : ℕ) → Ready d m → d.face.hot.transfer ≡ TakingPassword b → b.word < 255
    → step_of d m (WriteWord w) ≡ shown (taking d b w) m Done 0
unfolding alone_of ignored_of act_of write_word_of
more_step d m b w k e h =
    ready_step d m (WriteWord w) k ∙ ap (λ (t : Transfer). step_as (write_word_as d.face d.secrets m w t)) e ∙ word_taken d m b w h

-- the words that are left of a right block open
block_opens : (ws : List ℕ) (d : Device) (m : List ℕ) (n : ℕ) → Ready d m → d.face.hot.transfer ≡ TakingPassword (record { purpose = Unlock; word = n })
    → n + length ws ≡ 256 → n < 256 → is_locked (security_in d).lock ≡ true
    → master_at_maximum (security_in d) (put_all d.face.buffer n ws) ≡ false → password_of (put_all d.face.buffer n ws) ≡ picked_of d.secrets (put_all d.face.buffer n ws)
    → (security_in (session_of step_of d m (map WriteWord ws)).device).lock ≡ Open
unfolding session_of put_all
block_opens [] d m n k e l o h p r = absurd (let q : n + 0 ≡ 256 = l in omega arith)
block_opens (w ∷ []) d m n k e l o h p r =
    let b : PasswordBlock = record { purpose = Unlock; word = n } in
    let s = last_word d m Unlock b w k record { opened = e; purpose = refl; last = let q : n + 1 ≡ 256 = l in omega arith } in
    ap (λ (t : Step). (security_in t.outcome.device).lock) (s ∙ ap (judged_step d m b w) (judge_opens (security_in d) d.secrets (block_with d b w) h p r))
block_opens (w ∷ v ∷ ws) d m n k e l o h p r =
    let b : PasswordBlock = record { purpose = Unlock; word = n } in
    let s = more_step d m b w k e (omega arith) in
    let again = ready_after d m (WriteWord w) (shown (taking d b w) m Done 0) k (sym (ready_step d m (WriteWord w) k) ∙ s) refl in
    ap (λ (t : Step). (security_in (session_of step_of t.outcome.device t.sectors (map WriteWord (v ∷ ws))).device).lock) s
    ∙ block_opens (v ∷ ws) (taking d b w) m (n + 1) again refl (omega arith) (omega arith) h p r

-- ---- the way to them

-- an action that leaves this device, and the same memory, and then others
then : (d e : Device) (m : List ℕ) (a : Action) (l : List Action) → step_of d m a ≡ shown e m Done 0 → (session_of step_of d m (a ∷ l)).device ≡ (session_of step_of e m l).device
unfolding session_of
then d e m a l s = ap (λ (t : Step). (session_of step_of t.outcome.device t.sectors l).device) s

shown_ready : (d e : Device) (m : List ℕ) (a : Action) → Ready d m → step_of d m a ≡ shown e m Done 0 → Ready e m
shown_ready d e m a k s = ready_after d m a (shown e m Done 0) k (sym (ready_step d m a k) ∙ s) refl

-- SRST set, and cleared again
abbrev reset : Device → Device
reset d = device_of (soft_reset_of d.face false) d.secrets

abbrev released : Device → Device
released d = device_of (with_hot (reset d).face start_hot) d.secrets

-- F2h has been taken
abbrev asked : Device → Device
asked d = device_of (with_hot (released d).face (with_transfer (cleared_of start_hot) (TakingPassword (record { purpose = Unlock; word = 0 })))) d.secrets

reset_step : (d : Device) (m : List ℕ) → Ready d m → step_of d m (WriteRegister 8 4) ≡ shown (reset d) m Done 0
unfolding alone_of ignored_of act_of write_register_of control_of srst_of nien_of within
reset_step d m k = ready_step d m (WriteRegister 8 4) k

release_step : (d : Device) (m : List ℕ) → Ready (reset d) m → step_of (reset d) m (WriteRegister 8 0) ≡ shown (released d) m Done 0
unfolding alone_of ignored_of act_of write_register_of control_of srst_of nien_of within
release_step d m k = ready_step (reset d) m (WriteRegister 8 0) k

locked_runs : (l : Lock) → is_locked l ≡ true → may_run_of 0xF2 l ≡ true
unfolding may_run_of decode_of coded_of
locked_runs Open e = refl
locked_runs Locked e = refl
locked_runs Frozen e = e

unlock_step : (d : Device) (m : List ℕ) → Ready (released d) m → is_locked (security_in d).lock ≡ true → 0 < (security_in d).attempts
    → step_of (released d) m (WriteRegister 7 0xF2) ≡ shown (asked d) m Done 0
unfolding alone_of ignored_of dev_set act_of write_register_of within command_of begun_of dropped_of stations_of decode_of coded_of take_password_of
unlock_step d m k h a =
    ready_step (released d) m (WriteRegister 7 0xF2) k ∙ rw (locked_runs (security_in d).lock h, attempts_left (unprepared_of (security_in d)) a) refl

-- from any locked device in shape with attempts left
pub right_words_open : (d : Device) (m ws : List ℕ) → Ready d m → is_locked (security_in d).lock ≡ true → 0 < (security_in d).attempts → RightWords d ws
    → (security_in (session_of step_of d m (unlock_with ws)).device).lock ≡ Open
unfolding master_at_maximum
right_words_open d m ws k h a r =
    let s = reset_step d m k in
    let k₁ = shown_ready d (reset d) m (WriteRegister 8 4) k s in
    let t = release_step d m k₁ in
    let k₂ = shown_ready (reset d) (released d) m (WriteRegister 8 0) k₁ t in
    let u = unlock_step d m k₂ h a in
    let k₃ = shown_ready (released d) (asked d) m (WriteRegister 7 0xF2) k₂ u in
    ap (λ (e : Device). (security_in e).lock) (then d (reset d) m (WriteRegister 8 4) _ s ∙ then (reset d) (released d) m (WriteRegister 8 0) _ t ∙ then (released d) (asked d) m (WriteRegister 7 0xF2) _ u)
    ∙ block_opens ws (asked d) m 0 k₃ refl (let q : length ws ≡ 256 = r.whole in omega arith) (omega arith) h r.level r.right
