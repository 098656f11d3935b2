-- The block of IDENTIFY (document 01, "Commands": "A word is low byte first").
use Rattle.std.specs.Prelude.{ℕ, zero, suc, ◌/◌, ◌%◌, List, [], ◌∷◌, ◌++◌}
use Rattle.settled.specs.declared.Settled.{Settled}
use Rattle.identify.specs.Words.{identify_word}

-- words 0 to k - 1, each low byte first
unfoldable pub words_of : Settled → ℕ → List ℕ
words_of s zero = []
words_of s (suc k) = words_of s k ++ (identify_word s k % 256 ∷ identify_word s k / 256 ∷ [])

-- all 256 words
unfoldable pub identify_of : Settled → List ℕ
identify_of s = words_of s 256
