-- The identity that setup takes (document 01, "The disk and its three lives").
use Rattle.std.specs.Prelude.{ℕ, Bool, true, false, List, [], ◌∷◌}
use Rattle.base.specs.Choice.{pick, within}
use Rattle.settled.specs.declared.Identity.{Identity}

-- a byte from 20h to 7Eh
abbrev pub plain : ℕ → Bool
plain x = within 0x20 0x7E x

-- "each byte 20h to 7Eh"
unfoldable pub printable : List ℕ → Bool
printable [] = true
printable (x ∷ xs) = pick (plain x) (printable xs) false

-- "serial (20 bytes), firmware (8), model (40)"
unfoldable pub identity_fits : Identity → Bool
identity_fits i = pick (printable i.serial) (pick (printable i.firmware) (printable i.model) false) false
