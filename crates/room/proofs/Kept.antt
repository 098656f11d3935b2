-- The guest's step leaves a locked face locked: nothing but an accepted block and a start of a disk with security off opens it.
use mathlib.Core.Path.{◌≡◌, sym, ap, ◌∙◌}
use mathlib.Core.Bool.{Bool, true}
use mathlib.Core.List.{List, []}
use Prim.Native.Nat.{ℕ, ◌-◌}
use lib.Dec.{ltb}
use Rattle.base.proofs.Tests.{false≢true, pick_both}
use Rattle.lock.specs.Lock.{is_locked, with_attempts, starting_lock}
use Rattle.lock.specs.declared.Security.{Security}
use Rattle.lock.specs.declared.Purpose.{Purpose}
use Rattle.lock.specs.declared.Purpose.TheVariants.{Set, Unlock, Erase, Disable}
use Rattle.judging.specs.Judging.{mismatched_of}
use Rattle.settled.specs.declared.Settled.{Settled}
use Rattle.face.specs.declared.Transfer.{Transfer}
use Rattle.face.specs.declared.Transfer.TheVariants.{Idle, Reading, Writing, ReadingBuffer, WritingBuffer, TakingPassword}
use Rattle.face.specs.declared.Face.{Face}
use Rattle.face.specs.declared.Action.{Action}
use Rattle.face.specs.declared.Action.TheVariants.{ReadRegister, WriteRegister, ReadWord, WriteWord, HardwareReset, PowerOn, Line}
use Rattle.fastpath.specs.Dev.{ignored_of}
use Rattle.transfers.specs.Words.{write_buffer_word}
use Rattle.face.specs.declared.Shows.{Shows}
use Rattle.reading.specs.Words.{read_word_of}
use Rattle.laws.proofs.Settling.{Closed, write_register_settles, read_word_settles}
use Rattle.room.specs.Guest.{refused_security, refused_last, guest_password, guest_word, guest_act, guest_step}

-- security settings that say locked, and a settled part that has them
abbrev LockedBy : Security → Type 0
LockedBy s = is_locked s.lock ≡ true

abbrev pub LockedIn : Settled → Type 0
LockedIn s = LockedBy s.security

pub locked_closed : Closed LockedIn
locked_closed =
    record { translation = λ s t p. p; prepared = λ s p. p; unprepared = λ s p. p; frozen = λ s h p. absurd (false≢true (sym h ∙ p)) }

mismatched_locked : (s : Security) → LockedBy s → LockedBy (mismatched_of s)
unfolding mismatched_of
mismatched_locked s h = pick_both LockedBy (ltb 0 s.attempts) (with_attempts s (s.attempts - 1)) s h h

refused_locked : (s : Security) (b : List ℕ) (p : Purpose) → LockedBy s → LockedBy (refused_security s b p)
refused_locked s b Set h = h
refused_locked s b Unlock h = search (pick_both LockedBy, mismatched_locked)
refused_locked s b Erase h = h
refused_locked s b Disable h = h

word_locked : (f : Face) (w : ℕ) (t : Transfer) → LockedIn f.settled → LockedIn (guest_word f w t).left.settled
unfolding write_buffer_word guest_password refused_last
word_locked f w Idle h = h
word_locked f w (Reading r) h = h
word_locked f w (Writing r) h = h
word_locked f w (ReadingBuffer n) h = h
word_locked f w (WritingBuffer n) h = pick_both (λ (g : Face). LockedIn g.settled) (ltb n 255) _ _ h h
word_locked f w (TakingPassword b) h =
    pick_both (λ (g : Face). LockedIn g.settled) (ltb b.word 255) _ _ h (refused_locked f.settled.security _ b.purpose h)

act_locked : (f : Face) (a : Action) → LockedIn f.settled → f.settled.security.enabled ≡ true → LockedIn (guest_act f a).left.settled
unfolding guest_act read_word_of starting_lock
act_locked f (ReadRegister n) h e = h
act_locked f (WriteRegister n v) h e = write_register_settles locked_closed f [] n v h
act_locked f ReadWord h e = read_word_settles locked_closed f [] f.hot.transfer h
act_locked f (WriteWord w) h e = word_locked f w f.hot.transfer h
act_locked f HardwareReset h e = ap (λ (b : Bool). is_locked (starting_lock b)) e
act_locked f PowerOn h e = ap (λ (b : Bool). is_locked (starting_lock b)) e
act_locked f Line h e = h

pub guest_locked : (f : Face) (a : Action) → LockedIn f.settled → f.settled.security.enabled ≡ true → LockedIn (guest_step f a).left.settled
unfolding guest_step
guest_locked f a h e = pick_both (λ (t : Shows Face). LockedIn t.left.settled) (ignored_of f.hot a) _ _ h (act_locked f a h e)
