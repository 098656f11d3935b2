-- The password of a block and its comparison (document 01, "The lock": "words 1 to 16 are the password, all 32 bytes significant").
use Rattle.std.specs.Prelude.{ℕ, Bool, true, false, List, [], ◌∷◌, eqb, take, drop}
use Rattle.base.specs.Choice.{pick}

-- bytes 2 to 33 of the block: words 1 to 16
unfoldable pub password_of : List ℕ → List ℕ
password_of b = take 32 (drop 2 b)

-- two passwords are the same, byte by byte
unfoldable pub same : List ℕ → List ℕ → Bool
same [] [] = true
same [] (y ∷ ys) = false
same (x ∷ xs) [] = false
same (x ∷ xs) (y ∷ ys) = pick (eqb x y) (same xs ys) false
