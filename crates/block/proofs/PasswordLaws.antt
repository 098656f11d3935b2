-- A block's password is its words 1 to 16, byte 0 the low byte of word 1.
use Prim.Native.Nat.{ℕ, ◌+◌, ◌*◌, ◌<◌}
use mathlib.Core.Path.{◌≡◌}
use mathlib.Core.List.{List}
use native.Mathlib.Omega.{arith}
use lib.ListN.{length, get_or, drop, length-take, length-drop}
use lib.Seq.{get_or-take, get_or-drop}
use Rattle.block.specs.Words.{word_at}
use Rattle.block.specs.Passwords.{password_of}

pub password_length : (b : List ℕ) → length b ≡ 512 → length (password_of b) ≡ 32
unfolding password_of
password_length b e = simp (length-take, length-drop) (omega arith)

pub password_byte : (b : List ℕ) (i : ℕ) → i < 32 → get_or (password_of b) i 0 ≡ get_or b (2 + i) 0
unfolding password_of
password_byte b i h = rw (get_or-take 32 (drop 2 b) i 0 h, get_or-drop 2 b i 0)

-- word k of the password is word k + 1 of the block
pub password_word_law : (b : List ℕ) (k : ℕ) → k < 16 → word_at (password_of b) k ≡ word_at b (k + 1)
unfolding word_at
password_word_law b k h =
    let lo : 2 + 2 * k ≡ 2 * (k + 1) = omega arith in
    let hi : 2 + (2 * k + 1) ≡ 2 * (k + 1) + 1 = omega arith in
    rw (password_byte b (2 * k) (omega arith), password_byte b (2 * k + 1) (omega arith), lo, hi)
