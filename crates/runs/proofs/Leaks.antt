-- Runs, which are computed, on which wrong rules tell apart two of demand 3's devices.
use Prim.Native.Nat.{ℕ}
use mathlib.Core.Path.{◌≡◌, refl}
use mathlib.Core.Bool.{true, false}
use mathlib.Core.List.{List, [], ◌∷◌}
use Rattle.face.specs.declared.Action.{Action}
use Rattle.face.specs.declared.Action.TheVariants.{WriteRegister, ReadWord}
use Rattle.device.specs.declared.Device.{Device}
use Rattle.laws.specs.Sessions.{Rules, session_of}
use Rattle.room.specs.Blocks.{never_accepted}
use Rattle.room.specs.Claims.{holding, Guarded, AlikeOutside}
use Rattle.room.proofs.Running.{running_on_bytes}
use Rattle.laws.specs.Sessions.{last_value}
use Rattle.runs.proofs.OneSector.{disk, locked_at, passwords, filled, block_of, unlocking_then_status, opened, locked_ready, guarded, alike_at}
use Rattle.room.proofs.WrongRules.{start_keeps_buffer, compares31_bytes, takes_master_at_maximum, identifies_a_sector}

-- ---- demand 3

-- one of demand 3's devices accepts no block of these actions, and the value that they end with is u
pub record Shows (r : Rules) (d : Device) (m : List ℕ) (l : List Action) (u : ℕ) : Type 0 where
  pub guarded : Guarded r d m
  pub never : never_accepted r d m l ≡ true
  pub last : last_value (session_of r d m l).answers ≡ u

-- so these actions tell two of them apart that are alike outside
pub record TellsApart (r : Rules) (d e : Device) (m n : List ℕ) (l : List Action) (u v : ℕ) : Type 0 where
  pub first : Shows r d m l u
  pub second : Shows r e n l v
  pub alike : AlikeOutside d e

-- a block that is right but for the 32nd byte opens one of them
pub compares31_bytes_run : TellsApart compares31_bytes disk (locked_at false (passwords 2 7)) (filled 0) (filled 0)
    (unlocking_then_status (block_of 0 0x0101 0x0201)) 0x50 0x51
unfolding running_on_bytes compares31_bytes
compares31_bytes_run =
    record {
      first = record { guarded = guarded compares31_bytes false (passwords 1 7) (filled 0) refl refl; never = refl; last = refl };
      second = record { guarded = guarded compares31_bytes false (passwords 2 7) (filled 0) refl refl; never = refl; last = refl };
      alike = alike_at false (passwords 1 7) (passwords 2 7);
    }

-- the right master password opens one of them at level Maximum
pub takes_master_at_maximum_run : TellsApart takes_master_at_maximum (locked_at true (passwords 1 7)) (locked_at true (passwords 1 8)) (filled 0) (filled 0)
    (unlocking_then_status (block_of 1 0x0707 0x0707)) 0x50 0x51
unfolding running_on_bytes takes_master_at_maximum
takes_master_at_maximum_run =
    record {
      first = record { guarded = guarded takes_master_at_maximum true (passwords 1 7) (filled 0) refl refl; never = refl; last = refl };
      second = record { guarded = guarded takes_master_at_maximum true (passwords 1 8) (filled 0) refl refl; never = refl; last = refl };
      alike = alike_at true (passwords 1 7) (passwords 1 8);
    }

-- the first word of IDENTIFY
pub identifies_a_sector_run : TellsApart identifies_a_sector disk disk (filled 1) (filled 2)
    (WriteRegister 7 0xEC ∷ ReadWord ∷ []) 1 2
unfolding running_on_bytes identifies_a_sector
identifies_a_sector_run =
    record {
      first = record { guarded = guarded identifies_a_sector false (passwords 1 7) (filled 1) refl refl; never = refl; last = refl };
      second = record { guarded = guarded identifies_a_sector false (passwords 1 7) (filled 2) refl refl; never = refl; last = refl };
      alike = alike_at false (passwords 1 7) (passwords 1 7);
    }

-- payment, who has opened the disk, reads the sector: READ SECTOR(S) puts it into the buffer
abbrev paid : List ℕ → Device
paid m = (start_keeps_buffer (opened disk) m (WriteRegister 7 0x20)).outcome.device

-- the next power-on then leaves this disk: locked, and the sector, 512 bytes v, still in the buffer
abbrev after_payment : ℕ → Device
after_payment v = holding disk (filled v)

after_payment_law : (v : ℕ) → Guarded start_keeps_buffer (after_payment v) (filled v)
unfolding running_on_bytes start_keeps_buffer
after_payment_law v =
    record {
      ready = locked_ready false (passwords 1 7) (filled v) (filled v) refl;
      started = record { before = paid (filled v); memory = filled v; ready = record { shaped = refl; long = refl }; left = refl };
      enabled = refl;
    }

-- the first word of READ BUFFER
pub start_keeps_buffer_run : TellsApart start_keeps_buffer (after_payment 1) (after_payment 2) (filled 1) (filled 2)
    (WriteRegister 7 0xE4 ∷ ReadWord ∷ []) 0x0101 0x0202
unfolding running_on_bytes start_keeps_buffer
start_keeps_buffer_run =
    record {
      first = record { guarded = after_payment_law 1; never = refl; last = refl };
      second = record { guarded = after_payment_law 2; never = refl; last = refl };
      alike = record { geometry = refl; identity = refl; level = refl };
    }
