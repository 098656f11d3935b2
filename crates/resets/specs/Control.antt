-- What a write to Device Control leaves of the face (document 01, "Registers").
use Rattle.std.specs.Prelude.{ℕ, ◌/◌, ◌%◌, Bool, true, false, eqb}
use Rattle.base.specs.Choice.{pick}
use Rattle.block.specs.Sectors.{zero_block}
use Rattle.settled.specs.Settled.{settled_reset}
use Rattle.face.specs.Face.{start_hot, with_held, with_masked, with_signals, with_hot, with_settled, with_buffer}
use Rattle.face.specs.declared.Hot.{Hot}
use Rattle.face.specs.declared.Face.{Face}

-- "SRST (Device Control bit 2)"
unfoldable pub srst_of : ℕ → Bool
srst_of v = eqb (v / 4 % 2) 1

-- "nIEN is bit 1"
unfoldable pub nien_of : ℕ → Bool
nien_of v = eqb (v / 2 % 2) 1

-- registers, signals and transfer once SRST is set: "drops the transfer, restores start values .. clears interrupt"
abbrev pub held_hot : Bool → Hot
held_hot masked = with_signals start_hot (with_masked (with_held start_hot.signals true) masked)

-- a Device Control write with SRST clear
abbrev pub released_of : Hot → Bool → Hot
released_of h masked = with_signals h (with_masked (with_held h.signals false) masked)

-- "Setting SRST drops the transfer, restores start values and factory translation, zeroes the buffer, clears interrupt and preparation"
abbrev pub soft_reset_of : Face → Bool → Face
soft_reset_of f masked = with_buffer (with_settled (with_hot f (held_hot masked)) (settled_reset f.settled)) zero_block

-- a write to Device Control
unfoldable pub control_of : Face → ℕ → Face
control_of f v = pick (srst_of v) (soft_reset_of f (nien_of v)) (with_hot f (released_of f.hot (nien_of v)))
