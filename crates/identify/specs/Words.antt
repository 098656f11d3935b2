-- The words of IDENTIFY by their numbers (document 01, "IDENTIFY words").
use Rattle.std.specs.Prelude.{ℕ, ◌+◌, ◌-◌, ◌*◌, ◌/◌, ◌%◌, List, eqb, get_or}
use Rattle.base.specs.Choice.{pick, within}
use Rattle.geometry.specs.Geometry.{capacity_of}
use Rattle.geometry.specs.Translation.{product_of}
use Rattle.settled.specs.declared.Settled.{Settled}
use Rattle.identify.specs.SecurityWord.{security_word}

-- "low word first": the first of a number's two words
abbrev pub low_word : ℕ → ℕ
low_word x = x % 65536

-- and the second
abbrev pub high_word : ℕ → ℕ
high_word x = x / 65536

-- word n of a text: "first character in the high byte"
unfoldable pub text_word : List ℕ → ℕ → ℕ
text_word t n = get_or t (2 * n + 1) 0 + 256 * get_or t (2 * n) 0

-- the words that are numbers, in the paper's order: C, H, S are the geometry's, "current cylinders, heads, sectors" the translation's; "Others 0"
unfoldable pub number_word : Settled → ℕ → ℕ
number_word s n =
    pick (eqb n 0) 0x0040
    (pick (eqb n 1) s.geometry.cylinders
    (pick (eqb n 3) s.geometry.heads
    (pick (eqb n 6) s.geometry.sectors
    (pick (eqb n 49) 0x0200
    (pick (eqb n 53) 0x0001
    (pick (eqb n 54) s.translation.cylinders
    (pick (eqb n 55) s.translation.heads
    (pick (eqb n 56) s.translation.sectors
    (pick (eqb n 57) (low_word (product_of s.translation))
    (pick (eqb n 58) (high_word (product_of s.translation))
    (pick (eqb n 60) (low_word (capacity_of s.geometry))
    (pick (eqb n 61) (high_word (capacity_of s.geometry))
    (pick (eqb n 80) 0x000E
    (pick (eqb n 82) 0x0002
    (pick (eqb n 83) 0x4000
    (pick (eqb n 128) (security_word s.security)
    0))))))))))))))))

-- word n: "10-19, 23-26, 27-46: serial, firmware, model", else a number
unfoldable pub identify_word : Settled → ℕ → ℕ
identify_word s n =
    pick (within 10 19 n) (text_word s.identity.serial (n - 10))
    (pick (within 23 26 n) (text_word s.identity.firmware (n - 23))
    (pick (within 27 46 n) (text_word s.identity.model (n - 27))
    (number_word s n)))
