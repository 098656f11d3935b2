-- Where the fast path settles nothing, it leaves the buffer.
use mathlib.Core.Bool.{Bool, true, false}
use mathlib.Core.Path.{◌≡◌, refl}
use mathlib.Core.List.{List}
use Prim.Native.Nat.{ℕ}
use lib.Dec.{ltb}
use Rattle.std.specs.Prelude.{Some, None}
use Rattle.base.specs.Choice.{pick}
use Rattle.face.specs.declared.Hot.{Hot}
use Rattle.face.specs.declared.Shows.{Shows}
use Rattle.face.specs.declared.Transfer.{Transfer}
use Rattle.face.specs.declared.Transfer.TheVariants.{Idle, Reading, Writing, ReadingBuffer, WritingBuffer, TakingPassword}
use Rattle.face.specs.declared.Action.{Action}
use Rattle.face.specs.declared.Action.TheVariants.{ReadRegister, WriteRegister, ReadWord, WriteWord, HardwareReset, PowerOn, Line}
use Rattle.fastpath.specs.Quick.{quick_write_of, quick_write_buffer, quick_of, quick_buffer}
use Rattle.fastpath.specs.Dev.{ignored_of, quick_alone, quick_alone_buffer}

-- a choice that came out None did not settle
slow_false : (b : Bool) (s : Shows Hot) → pick b (Some s) None ≡ None → b ≡ false
slow_false true s e = cc
slow_false false s e = refl

slow_write : (h : Hot) (b : List ℕ) (w : ℕ) (t : Transfer) → quick_write_of h t ≡ None → quick_write_buffer b w t ≡ b
unfolding quick_write_of quick_write_buffer
slow_write h b w Idle e = refl
slow_write h b w (Reading r) e = refl
slow_write h b w (Writing r) e = rw (slow_false (ltb r.word 255) _ e)
slow_write h b w (ReadingBuffer n) e = refl
slow_write h b w (WritingBuffer n) e = rw (slow_false (ltb n 255) _ e)
slow_write h b w (TakingPassword p) e = rw (slow_false (ltb p.word 255) _ e)

slow_core : (h : Hot) (b : List ℕ) (a : Action) → quick_of h b a ≡ None → quick_buffer h b a ≡ b
unfolding quick_of quick_buffer
slow_core h b (ReadRegister n) e = refl
slow_core h b (WriteRegister n v) e = refl
slow_core h b ReadWord e = refl
slow_core h b (WriteWord w) e = slow_write h b w h.transfer e
slow_core h b HardwareReset e = refl
slow_core h b PowerOn e = refl
slow_core h b Line e = refl

-- where the fast path settles nothing, it leaves the buffer
pub quick_slow : (h : Hot) (b : List ℕ) (a : Action) → quick_alone h b a ≡ None → quick_alone_buffer h b a ≡ b
unfolding quick_alone quick_alone_buffer
quick_slow h b a e = go (ignored_of h a) e
  where
    go : (i : Bool) → pick i None (quick_of h b a) ≡ None → pick i b (quick_buffer h b a) ≡ b
    go true k = refl
    go false k = slow_core h b a k
