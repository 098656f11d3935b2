-- The records of a recording (document 01, "Replay"): "a two-byte big-endian length and payload".
use Rattle.std.specs.Prelude.{ℕ, ◌+◌, ◌*◌, List, ltb, eqb, length, get_or, Result, Ok, Err}
use Rattle.base.specs.Choice.{pick}
use Rattle.face.specs.declared.Action.TheVariants.{ReadRegister, WriteRegister, ReadWord, WriteWord, HardwareReset, PowerOn, Line}
use Rattle.face.specs.declared.Action.{Action}
use Rattle.records.specs.declared.Record.{Record}
use Rattle.records.specs.declared.NoRecord.{NoRecord}
use Rattle.records.specs.declared.NoRecord.TheVariants.{Nothing, Part, Malformed}

-- a record of this action, and so many bytes
abbrev pub taking : Action → ℕ → Result Record NoRecord
taking action size = Ok (record { action = action; size = size })

-- length 1: "03 (read word) .. 05 hardware reset, 06 power-on, 07 line"
unfoldable pub one_byte : ℕ → Result Record NoRecord
one_byte kind =
    pick (eqb kind 3) (taking ReadWord 3)
    (pick (eqb kind 5) (taking HardwareReset 3)
    (pick (eqb kind 6) (taking PowerOn 3)
    (pick (eqb kind 7) (taking Line 3) (Err Malformed))))

-- length 2: "01 register"
unfoldable pub two_bytes : ℕ → ℕ → Result Record NoRecord
two_bytes kind register = pick (eqb kind 1) (taking (ReadRegister register) 4) (Err Malformed)

-- length 3: "02 register value .. 04 and a big-endian word"
unfoldable pub three_bytes : ℕ → ℕ → ℕ → Result Record NoRecord
three_bytes kind first second =
    pick (eqb kind 4) (taking (WriteWord (256 * first + second)) 5)
    (pick (eqb kind 2) (taking (WriteRegister first second) 5) (Err Malformed))

-- a record of this size, as far as it has come
abbrev pub sized : ℕ → List ℕ → Result Record NoRecord → Result Record NoRecord
sized size l x = pick (ltb (length l) size) (Err Part) x

-- by its length, which no kind has above 3: "a payload longer or shorter than its kind"
unfoldable pub payload_of : ℕ → List ℕ → Result Record NoRecord
payload_of n l =
    pick (eqb n 1) (sized 3 l (one_byte (get_or l 2 0)))
    (pick (eqb n 2) (sized 4 l (two_bytes (get_or l 2 0) (get_or l 3 0)))
    (pick (eqb n 3) (sized 5 l (three_bytes (get_or l 2 0) (get_or l 3 0) (get_or l 4 0))) (Err Malformed)))

-- "a two-byte big-endian length"
unfoldable pub length_of : List ℕ → ℕ
length_of l = 256 * get_or l 0 0 + get_or l 1 0

-- what the bytes start with
unfoldable pub next_of : List ℕ → Result Record NoRecord
next_of l =
    pick (ltb (length l) 1) (Err Nothing)
    (pick (ltb (length l) 2) (Err Part) (payload_of (length_of l) l))
