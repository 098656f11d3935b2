-- What reads of registers and of the interrupt line show (document 01, "Registers").
use Rattle.std.specs.Prelude.{ℕ, Bool, true, false, eqb}
use Rattle.base.specs.Choice.{pick}
use Rattle.face.specs.Face.{with_raised, with_signals}
use Rattle.face.specs.declared.Transfer.{Transfer}
use Rattle.face.specs.declared.Transfer.TheVariants.{Idle, Reading, Writing, ReadingBuffer, WritingBuffer, TakingPassword}
use Rattle.face.specs.declared.Hot.{Hot}
use Rattle.face.specs.declared.Shows.{Shows}
use Rattle.face.specs.declared.Answer.{Answer}
use Rattle.face.specs.declared.Answer.TheVariants.{Done, NoRegister, OutOfShape, WrongLength, NoTransfer, SetupRefused}

-- the table of answers: 0 done, 1 no such register, 2 out of shape, 3 wrong length, 4 no transfer that way, 6 setup refused
abbrev pub number_of : Answer → ℕ
number_of Done = 0
number_of NoRegister = 1
number_of OutOfShape = 2
number_of WrongLength = 3
number_of NoTransfer = 4
number_of SetupRefused = 6

-- the table of answers, column "Returns": "the value" where it is done, else 0
abbrev pub value_of : Answer → ℕ → ℕ
value_of Done v = v
value_of NoRegister v = 0
value_of OutOfShape v = 0
value_of WrongLength v = 0
value_of NoTransfer v = 0
value_of SetupRefused v = 0

-- no transfer is open
abbrev pub is_idle : Transfer → Bool
is_idle Idle = true
is_idle (Reading r) = false
is_idle (Writing r) = false
is_idle (ReadingBuffer n) = false
is_idle (WritingBuffer n) = false
is_idle (TakingPassword b) = false

-- "Status is 50h idle, 58h with a word due, 51h after an error, 80h while SRST is held"
unfoldable pub status_of : Hot → ℕ
status_of h = pick h.signals.held 0x80 (pick (is_idle h.transfer) (pick h.signals.failed 0x51 0x50) 0x58)

-- what an action leaves, and the answer and value that it shows
abbrev pub showing : {A : Type 0} → A → Answer → ℕ → Shows A
showing x a v = record { left = x; answer = a; value = v }

-- what an action on the hot part shows
abbrev pub seen : Hot → Answer → ℕ → Shows Hot
seen h a v = record { left = h; answer = a; value = v }

-- "Reading 7 clears it"
abbrev pub quiet_of : Hot → Hot
quiet_of h = with_signals h (with_raised h.signals false)

-- "A read of 1 to 6 always gives the value held"; 7 is Status and 8 Alternate Status; "register 0 or above 8" is answer 1
unfoldable pub read_register : Hot → ℕ → Shows Hot
read_register h n =
    pick (eqb n 1) (seen h Done h.regs.error)
    (pick (eqb n 2) (seen h Done h.regs.count)
    (pick (eqb n 3) (seen h Done h.regs.at.sector)
    (pick (eqb n 4) (seen h Done h.regs.at.low)
    (pick (eqb n 5) (seen h Done h.regs.at.high)
    (pick (eqb n 6) (seen h Done h.regs.at.head)
    (pick (eqb n 7) (seen (quiet_of h) Done (status_of h))
    (pick (eqb n 8) (seen h Done (status_of h))
    (seen h NoRegister 0))))))))

-- "The line is 1 when raised and nIEN is 0"
unfoldable pub line_of : Hot → ℕ
line_of h = pick h.signals.raised (pick h.signals.masked 0 1) 0
