-- A choice by a test, and a test of limits.
use Rattle.std.specs.Prelude.{ℕ, Bool, true, false, leb}

-- The first where the test holds, else the second.
abbrev pub pick {ℓ} : {A : Type ℓ} → Bool → A → A → A
pick true a b = a
pick false a b = b

-- x is from low to high.
unfoldable pub within : ℕ → ℕ → ℕ → Bool
within low high x = pick (leb low x) (leb x high) false
