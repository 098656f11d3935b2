-- Sectors of lent memory: sector n is the 512 bytes from 512 x n on (document 01, "sector memory is exactly 512 x capacity bytes").
use Rattle.std.specs.Prelude.{ℕ, ◌*◌, List, length, take, drop, replicate}
use Rattle.std.proofs.Math.Seq.{paste}

-- a block of zeros: "sector buffer zeroed"
unfoldable pub zero_block : List ℕ
zero_block = replicate 512 0

-- sector n of the memory
unfoldable pub sector_at : List ℕ → ℕ → List ℕ
sector_at s n = take 512 (drop (512 * n) s)

-- the memory with the block b as its sector n
unfoldable pub stored_at : List ℕ → ℕ → List ℕ → List ℕ
stored_at s n b = paste s (512 * n) b 512

-- memory of the same length with every byte 0: "all sectors zero"
unfoldable pub zeroed : List ℕ → List ℕ
zeroed s = replicate (length s) 0
