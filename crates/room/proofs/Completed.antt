-- An action that completes a password block is a data word, the block's 256th, with that block open.
use mathlib.Core.Path.{◌≡◌, refl, ap, ◌∙◌}
use mathlib.Core.Bool.{Bool, true, false}
use mathlib.Core.List.{List}
use Prim.Native.Nat.{ℕ, ◌≤◌}
use lib.Dec.{ltb}
use borrow.Author.Tests.{ltb-false, le-ltb}
use Rattle.base.specs.Choice.{pick}
use Rattle.base.proofs.Tests.{false≢true}
use Rattle.block.specs.Words.{word_put}
use Rattle.lock.specs.declared.Purpose.{Purpose}
use Rattle.face.specs.declared.PasswordBlock.{PasswordBlock}
use Rattle.face.specs.declared.Transfer.{Transfer}
use Rattle.face.specs.declared.Transfer.TheVariants.{Idle, Reading, Writing, ReadingBuffer, WritingBuffer, TakingPassword}
use Rattle.face.specs.declared.Face.{Face}
use Rattle.face.specs.declared.Action.{Action}
use Rattle.face.specs.declared.Action.TheVariants.{ReadRegister, WriteRegister, ReadWord, WriteWord, HardwareReset, PowerOn, Line}
use Rattle.laws.proofs.Shape.{guard}
use Rattle.room.specs.Blocks.{completed_as, completed_of}

pub record Completed (test : Purpose → List ℕ → Bool) (f : Face) (a : Action) : Type 0 where
  pub word : ℕ
  pub block : PasswordBlock
  pub is : a ≡ WriteWord word
  pub opened : f.hot.transfer ≡ TakingPassword block
  pub last : 255 ≤ block.word
  pub passes : test block.purpose (word_put f.buffer block.word word) ≡ true

word_completed : (test : Purpose → List ℕ → Bool) (f : Face) (w : ℕ) (t : Transfer) → f.hot.transfer ≡ t → completed_as test f w t ≡ true → Completed test f (WriteWord w)
word_completed test f w Idle o e = absurd (false≢true e)
word_completed test f w (Reading r) o e = absurd (false≢true e)
word_completed test f w (Writing r) o e = absurd (false≢true e)
word_completed test f w (ReadingBuffer n) o e = absurd (false≢true e)
word_completed test f w (WritingBuffer n) o e = absurd (false≢true e)
word_completed test f w (TakingPassword b) o e =
    let q = guard (ltb b.word 255) _ e in
    record { word = w; block = b; is = refl; opened = o; last = ltb-false b.word 255 q.0; passes = q.1 }

pub completed : (test : Purpose → List ℕ → Bool) (f : Face) (a : Action) → completed_of test f a ≡ true → Completed test f a
unfolding completed_of
completed test f (ReadRegister n) e = absurd (false≢true e)
completed test f (WriteRegister n v) e = absurd (false≢true e)
completed test f ReadWord e = absurd (false≢true e)
completed test f (WriteWord w) e = word_completed test f w f.hot.transfer refl e
completed test f HardwareReset e = absurd (false≢true e)
completed test f PowerOn e = absurd (false≢true e)
completed test f Line e = absurd (false≢true e)

-- another test of the same block
pub completed_other : (test other : Purpose → List ℕ → Bool) (f : Face) (a : Action) (c : Completed test f a)
    → completed_of other f a ≡ other c.block.purpose (word_put f.buffer c.block.word c.word)
unfolding completed_of
completed_other test other f a c =
    ap (completed_of other f) c.is ∙ ap (completed_as other f c.word) c.opened
    ∙ ap (λ (b : Bool). pick b false (other c.block.purpose (word_put f.buffer c.block.word c.word))) (le-ltb c.block.word 255 c.last)
