-- The fast path of a disk alone on its cable: the rules for DEV set (document 01, "Registers").
use Rattle.std.specs.Prelude.{ℕ, ◌/◌, ◌%◌, Bool, true, false, not, List, eqb, Option, None}
use Rattle.base.specs.Choice.{pick}
use Rattle.face.specs.declared.Shows.{Shows}
use Rattle.face.specs.declared.Hot.{Hot}
use Rattle.face.specs.declared.Action.{Action}
use Rattle.face.specs.declared.Action.TheVariants.{ReadRegister, WriteRegister, ReadWord, WriteWord, HardwareReset, PowerOn, Line}
use Rattle.fastpath.specs.Quick.{quick_of, quick_buffer}

-- "DEV (Device/Head bit 4)"
unfoldable pub dev_set : Hot → Bool
dev_set h = eqb (h.regs.at.head / 16 % 2) 1

-- "7 and 8 read 00h .. and commands other than 90h do nothing"
abbrev pub unanswered_of : Action → Bool
unanswered_of (ReadRegister n) = pick (eqb n 7) true (eqb n 8)
unanswered_of (WriteRegister n v) = pick (eqb n 7) (not (eqb v 0x90)) false
unanswered_of ReadWord = false
unanswered_of (WriteWord w) = false
unanswered_of HardwareReset = false
unanswered_of PowerOn = false
unanswered_of Line = false

-- "With DEV set"
unfoldable pub ignored_of : Hot → Action → Bool
ignored_of h a = pick (unanswered_of a) (dev_set h) false

-- the fast path
unfoldable pub quick_alone : Hot → List ℕ → Action → Option (Shows Hot)
quick_alone h b a = pick (ignored_of h a) None (quick_of h b a)

-- and what it leaves in the buffer
unfoldable pub quick_alone_buffer : Hot → List ℕ → Action → List ℕ
quick_alone_buffer h b a = pick (ignored_of h a) b (quick_buffer h b a)
