-- Wrong rules break the claims that rule their leaks out, by the runs that show each leak.
use Prim.Native.Nat.{ℕ}
use mathlib.Core.Path.{◌≡◌, refl, sym, ap, subst, ◌∙◌}
use mathlib.Core.List.{List}
use native.Mathlib.Omega.{arith}
use Rattle.face.specs.declared.Action.{Action}
use Rattle.device.specs.declared.Device.{Device}
use Rattle.laws.specs.Sessions.{Rules, Session, last_value}
use Rattle.room.specs.Blocks.{never_restarts}
use Rattle.room.specs.Claims.{KeepsTheSecret, ShutOut, ShutAfterFive}
use Rattle.room.proofs.WrongRules.{start_keeps_buffer, compares31_bytes, takes_master_at_maximum, identifies_a_sector, soft_reset_gives_attempts}
use Rattle.runs.proofs.OneSector.{disk, filled}
use Rattle.runs.proofs.Leaks.{TellsApart, compares31_bytes_run, takes_master_at_maximum_run, identifies_a_sector_run, start_keeps_buffer_run}
use Rattle.runs.proofs.BlockLeaks.{five_wrong, five_wrong_law, five_counted, soft_reset, taken_again, switched_on}

-- ---- demand 3

not_kept : {r : Rules} {d e : Device} {m n : List ℕ} {l : List Action} {u v : ℕ} → TellsApart r d e m n l u v → (u ≡ v → ⊥) → KeepsTheSecret r → ⊥
not_kept t apart k =
    apart
    (sym t.first.last
    ∙ ap last_value (k _ _ _ _ _ t.first.guarded t.second.guarded t.alike t.first.never t.second.never).answers
    ∙ t.second.last)

pub compares31_bytes_leaks : KeepsTheSecret compares31_bytes → ⊥
compares31_bytes_leaks = not_kept compares31_bytes_run (λ e. omega arith)

pub takes_master_at_maximum_leaks : KeepsTheSecret takes_master_at_maximum → ⊥
takes_master_at_maximum_leaks = not_kept takes_master_at_maximum_run (λ e. omega arith)

pub identifies_a_sector_leaks : KeepsTheSecret identifies_a_sector → ⊥
identifies_a_sector_leaks = not_kept identifies_a_sector_run (λ e. omega arith)

pub start_keeps_buffer_leaks : KeepsTheSecret start_keeps_buffer → ⊥
start_keeps_buffer_leaks = not_kept start_keeps_buffer_run (λ e. omega arith)

-- ---- five mismatches and a software reset

pub soft_reset_gives_attempts_leaks : ShutAfterFive soft_reset_gives_attempts → ⊥
unfolding never_restarts
soft_reset_gives_attempts_leaks k =
    taken_again
    (subst (λ (s : Session). ShutOut soft_reset_gives_attempts s.device s.sectors soft_reset) five_wrong_law
    (k disk (filled 0) five_wrong soft_reset switched_on.ready switched_on.started five_counted refl))
