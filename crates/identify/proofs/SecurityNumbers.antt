-- Numbers 7 to 10 of document 01: word 128 of a fresh disk, of a locked one at either level, of a frozen one.
use Prim.Native.Nat.{ℕ, ◌<◌}
use mathlib.Core.Path.{◌≡◌, refl}
use mathlib.Core.Bool.{Bool, true, false}
use Rattle.lock.specs.Lock.{exhausted_of}
use Rattle.lock.specs.declared.Lock.{Lock}
use Rattle.lock.specs.declared.Lock.TheVariants.{Open, Locked, Frozen}
use Rattle.lock.specs.declared.Security.{Security}
use Rattle.lock.proofs.Sound.{attempts_left}
use Rattle.identify.specs.SecurityWord.{security_word}

-- security settings of that lock, enabled mark and level, with so many attempts left, prepared or not
abbrev pub settings : Lock → Bool → Bool → ℕ → Bool → Security
settings l e m a p = record { lock = l; enabled = e; maximum = m; attempts = a; prepared = p }

-- "(7) word 128 fresh 0001h; (8) locked High 0007h; (9) locked Maximum, no attempts, 0117h; (10) frozen, enabled, High 000Bh"; a is how many attempts are left
pub record SecurityNumbers : Type 0 where
  pub number7 : security_word (settings Open false false 5 false) ≡ 0x0001
  pub number8 : (a : ℕ) (p : Bool) → 0 < a → security_word (settings Locked true false a p) ≡ 0x0007
  pub number9 : (p : Bool) → security_word (settings Locked true true 0 p) ≡ 0x0117
  pub number10 : (a : ℕ) (p : Bool) → 0 < a → security_word (settings Frozen true false a p) ≡ 0x000B

-- they hold
pub security_numbers : SecurityNumbers
unfolding security_word exhausted_of
security_numbers =
    record {
      number7 = refl;
      number8 = λ a p h. rw (attempts_left (settings Locked true false a p) h);
      number9 = λ p. refl;
      number10 = λ a p h. rw (attempts_left (settings Frozen true false a p) h);
    }
