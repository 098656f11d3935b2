-- Which codes may run, by the paper's own lists of codes, for all 256 codes in each lock state.
use mathlib.Core.Bool.{Bool, true, false, not, ◌&&◌, ◌||◌, beq}
use mathlib.Core.Path.{◌≡◌, refl, sym}
use mathlib.Core.List.{List, [], ◌∷◌}
use Prim.Native.Nat.{ℕ, ◌<◌}
use Rattle.base.specs.Choice.{within}
use Rattle.base.proofs.Lists.{among, below, below_each}
use Rattle.lock.specs.declared.Lock.{Lock}
use Rattle.lock.specs.declared.Lock.TheVariants.{Open, Locked, Frozen}
use Rattle.codes.specs.Commands.{coded_of, decode_of}
use Rattle.codes.specs.MayRun.{may_run_of}

-- "Locked aborts at once"
abbrev pub locked_aborts : List ℕ
locked_aborts = 0x20 ∷ 0x21 ∷ 0x30 ∷ 0x31 ∷ 0x40 ∷ 0x41 ∷ 0xF1 ∷ 0xF5 ∷ 0xF6 ∷ []

-- "Frozen aborts at once"
abbrev pub frozen_aborts : List ℕ
frozen_aborts = 0xF1 ∷ 0xF2 ∷ 0xF4 ∷ 0xF6 ∷ []

-- the codes of document 01's commands but for its two ranges
abbrev pub command_codes : List ℕ
command_codes = 0x20 ∷ 0x21 ∷ 0x30 ∷ 0x31 ∷ 0x40 ∷ 0x41 ∷ 0x90 ∷ 0x91 ∷ 0xE4 ∷ 0xE8 ∷ 0xEC ∷ 0xF1 ∷ 0xF2 ∷ 0xF3 ∷ 0xF4 ∷ 0xF5 ∷ 0xF6 ∷ []

-- a command of document 01; "All others, 00h included, abort"
abbrev pub known : ℕ → Bool
known code = within 0x10 0x1F code || (within 0x70 0x7F code || among code command_codes)

-- what aborts at once in a lock state
abbrev pub aborts_in : Lock → List ℕ
aborts_in Open = []
aborts_in Locked = locked_aborts
aborts_in Frozen = frozen_aborts

abbrev ruled : ℕ → Lock → Bool
ruled code l = known code && not (among code (aborts_in l))

-- the test, once for each lock state
whole : (l : Lock) → below 256 (λ code. beq (may_run_of code l) (ruled code l)) ≡ true
unfolding below may_run_of decode_of coded_of within
whole Open = refl
whole Locked = refl
whole Frozen = refl

beq_true : (a b : Bool) → beq a b ≡ true → a ≡ b
beq_true true true e = refl
beq_true true false e = sym e
beq_true false true e = e
beq_true false false e = refl

-- a code may run exactly if it is a command's and not among those that the lock state aborts
pub may_run_lists : (code : ℕ) (l : Lock) → code < 256 → may_run_of code l ≡ (known code && not (among code (aborts_in l)))
may_run_lists code l h = beq_true (may_run_of code l) (ruled code l) (below_each 256 (λ n. beq (may_run_of n l) (ruled n l)) (whole l) code h)
