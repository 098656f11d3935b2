-- Words of a block (document 01, "Commands": "A word is low byte first").
use Rattle.std.specs.Prelude.{ℕ, ◌+◌, ◌*◌, ◌/◌, ◌%◌, List, get_or, set}

-- word n of a block
unfoldable pub word_at : List ℕ → ℕ → ℕ
word_at b n = get_or b (2 * n) 0 + 256 * get_or b (2 * n + 1) 0

-- the block with w as its word n
unfoldable pub word_put : List ℕ → ℕ → ℕ → List ℕ
word_put b n w = set (set b (2 * n) (w % 256)) (2 * n + 1) (w / 256)
