-- What writes to registers 1 to 6 change in the register file (document 01, "Registers").
use Rattle.std.specs.Prelude.{ℕ, Bool, true, false, eqb}
use Rattle.base.specs.Choice.{pick}
use Rattle.address.specs.Registers.{with_sector}
use Rattle.face.specs.Registers.{with_features, with_count, with_at, with_low, with_high, with_device_head}
use Rattle.face.specs.Face.{with_regs}
use Rattle.face.specs.Reads.{is_idle}
use Rattle.face.specs.declared.Hot.{Hot}

-- "While it is held, writes to 1 to 7 do nothing .. During a transfer, writes to 1 to 6 do nothing"
unfoldable pub busy_of : Hot → Bool
busy_of h = pick h.signals.held true (pick (is_idle h.transfer) false true)

-- 1 Features, 2 Sector Count, 3 Sector Number, 4 and 5 Cylinder Low and High, 6 Device/Head
unfoldable pub store_register : Hot → ℕ → ℕ → Hot
store_register h n v =
    pick (eqb n 1) (with_regs h (with_features h.regs v))
    (pick (eqb n 2) (with_regs h (with_count h.regs v))
    (pick (eqb n 3) (with_regs h (with_at h.regs (with_sector h.regs.at v)))
    (pick (eqb n 4) (with_regs h (with_at h.regs (with_low h.regs.at v)))
    (pick (eqb n 5) (with_regs h (with_at h.regs (with_high h.regs.at v)))
    (with_regs h (with_at h.regs (with_device_head h.regs.at v)))))))

-- a write to one of registers 1 to 6
unfoldable pub put_register : Hot → ℕ → ℕ → Hot
put_register h n v = pick (busy_of h) h (store_register h n v)
