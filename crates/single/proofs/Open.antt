-- What the fast path leaves open: of reads of registers those that DEV hides, of writes none to registers 1 to 6, the line never.
use Prim.Native.Nat.{ℕ, ◌≤◌}
use mathlib.Core.Path.{◌≡◌, refl}
use mathlib.Core.Bool.{true, false}
use mathlib.Core.List.{List}
use native.Mathlib.Omega.{arith}
use borrow.Author.Tests.{ne_eqb}
use lib.Dec.{eqb}
use Rattle.std.specs.Prelude.{None}
use Rattle.base.specs.Choice.{within}
use Rattle.base.proofs.Tests.{either_way, within_high}
use Rattle.face.specs.declared.Hot.{Hot}
use Rattle.face.specs.declared.Action.TheVariants.{ReadRegister, WriteRegister, HardwareReset, PowerOn, Line}
use Rattle.fastpath.specs.Quick.{quick_put_of, quick_of}
use Rattle.fastpath.specs.Dev.{ignored_of, quick_alone}

pub read_open : (h : Hot) (b : List ℕ) (n : ℕ) → quick_alone h b (ReadRegister n) ≡ None → ignored_of h (ReadRegister n) ≡ true
unfolding quick_alone quick_of
read_open h b n e = either_way (ignored_of h (ReadRegister n)) (λ i. i) (λ i. let s = rw i at e in cc)

pub put_open : (h : Hot) (b : List ℕ) (n v : ℕ) → quick_alone h b (WriteRegister n v) ≡ None → within 1 6 n ≡ false
unfolding quick_alone quick_of quick_put_of ignored_of
put_open h b n v e =
    either_way (within 1 6 n)
    (λ w.
    let low : n ≤ 6 = within_high 1 6 n w in
    let other : eqb n 7 ≡ false = ne_eqb n 7 (λ (q : n ≡ 7). omega arith) in
    let s = rw (other, w) at e in cc)
    (λ w. w)

pub line_settles : (h : Hot) (b : List ℕ) → quick_alone h b Line ≡ None → ⊥
unfolding quick_alone quick_of ignored_of
line_settles h b e = cc

-- ---- what it never settles

pub command_open : (n v : ℕ) → n ≡ 7 → (h : Hot) (b : List ℕ) → quick_alone h b (WriteRegister n v) ≡ None
unfolding quick_alone quick_of quick_put_of within
command_open n v e h b = rw e (either_way (ignored_of h (WriteRegister 7 v)) (λ i. rw i) (λ i. rw i))

pub reset_open : (h : Hot) (b : List ℕ) → quick_alone h b HardwareReset ≡ None
unfolding quick_alone quick_of ignored_of
reset_open h b = refl

pub power_open : (h : Hot) (b : List ℕ) → quick_alone h b PowerOn ≡ None
unfolding quick_alone quick_of ignored_of
power_open h b = refl
