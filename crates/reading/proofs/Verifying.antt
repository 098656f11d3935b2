-- What the loop of VERIFY keeps.
use mathlib.Core.Path.{◌≡◌, refl, sym, ap, ◌∙◌}
use Prim.Native.Nat.{ℕ, zero, suc, ◌-◌, ◌≤◌, ◌<◌}
use native.Mathlib.Omega.{arith}
use Rattle.successor.specs.Successor.{successor_of}
use Rattle.address.specs.declared.AddressRegisters.{AddressRegisters}
use Rattle.address.specs.declared.Address.{Address}
use Rattle.address.specs.declared.Address.TheVariants.{Names, Faults}
use Rattle.address.specs.declared.Sector.{Sector}
use Rattle.face.specs.declared.Face.{Face}
use Rattle.transfers.specs.Sectors.{located, run_at, not_found_of}
use Rattle.reading.specs.Sectors.{verify_as, verify_last, verify_from}

-- all sectors before the one at `at` were good, and `after` come after it
pub record Verifying (f : Face) (first : ℕ) (from : AddressRegisters) (after : ℕ) (at : AddressRegisters) : Type 0 where
  pub is : verify_from f first from ≡ verify_from f after at

pub verifying_none : (f : Face) (after : ℕ) (at : AddressRegisters) → Verifying f after at after at
verifying_none f after at = record { is = refl }

-- one sector more
verify_step : (f : Face) (after : ℕ) (at : AddressRegisters) → 0 < after
    → verify_from f after at ≡ verify_as f (run_at at after) (verify_from f (after - 1) (successor_of f.settled.translation at)) (located f.settled at)
unfolding verify_from
verify_step f zero at h = absurd (omega arith)
verify_step f (suc k) at h = let e : suc k - 1 ≡ k = omega arith in rw e

pub verifying_more : {f : Face} {first : ℕ} {from : AddressRegisters} {after : ℕ} {at : AddressRegisters} → Verifying f first from after at → 0 < after
    → (x : Sector) → located f.settled at ≡ Names x → Verifying f first from (after - 1) (successor_of f.settled.translation at)
verifying_more {f} {first} {from} {after} {at} v h x e =
    let go : (a : Address) → a ≡ Names x → verify_as f (run_at at after) (verify_from f (after - 1) (successor_of f.settled.translation at)) a ≡ verify_from f (after - 1) (successor_of f.settled.translation at) = λ a q. rw q in
    record { is = v.is ∙ verify_step f after at h ∙ go (located f.settled at) e }

pub verifying_bad : {f : Face} {first : ℕ} {from : AddressRegisters} {after : ℕ} {at : AddressRegisters} → Verifying f first from after at → 0 < after
    → located f.settled at ≡ Faults → not_found_of f (run_at at after) ≡ verify_from f first from
verifying_bad {f} {first} {from} {after} {at} v h e =
    let go : (a : Address) → a ≡ Faults → verify_as f (run_at at after) (verify_from f (after - 1) (successor_of f.settled.translation at)) a ≡ not_found_of f (run_at at after) = λ a q. rw q in
    sym (v.is ∙ verify_step f after at h ∙ go (located f.settled at) e)

pub verifying_done : {f : Face} {first : ℕ} {from : AddressRegisters} {after : ℕ} {at : AddressRegisters} → Verifying f first from after at → after ≤ 0
    → verify_last f at ≡ verify_from f first from
unfolding verify_from
verifying_done {f} {first} {from} {after} {at} v h =
    let e : after ≡ 0 = omega arith in
    sym (v.is ∙ ap (λ (k : ℕ). verify_from f k at) e)
