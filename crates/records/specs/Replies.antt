-- The bytes that answer a record (document 01, "Replay").
use Rattle.std.specs.Prelude.{ℕ, ◌/◌, ◌%◌, List, [], ◌∷◌}

-- "per record length 0003h, answer, two-byte value"
abbrev pub reply_bytes : ℕ → ℕ → List ℕ
reply_bytes answer value = 0 ∷ 3 ∷ answer ∷ value / 256 ∷ value % 256 ∷ []

-- "00 01 05 (length 1, answer 5)"
abbrev pub fault_bytes : List ℕ
fault_bytes = 0 ∷ 1 ∷ 5 ∷ []
