-- How a command starts, goes on and ends, in the register file (document 01, "Registers").
use Rattle.std.specs.Prelude.{ℕ, true, false}
use Rattle.address.specs.declared.AddressRegisters.{AddressRegisters}
use Rattle.face.specs.Registers.{with_error, with_count, with_at}
use Rattle.face.specs.Face.{with_raised, with_failed, with_regs, with_signals, with_transfer}
use Rattle.face.specs.declared.Transfer.{Transfer}
use Rattle.face.specs.declared.Transfer.TheVariants.{Idle}
use Rattle.face.specs.declared.Hot.{Hot}

-- "A command first clears Error and the interrupt"; Status 51h ends too
abbrev pub cleared_of : Hot → Hot
cleared_of h = with_signals (with_regs h (with_error h.regs 0)) (with_failed (with_raised h.signals false) false)

-- "The interrupt is raised when each block to be read is ready, when each block to be written after the first is wanted"
abbrev pub raised_of : Hot → Transfer → Hot
raised_of h t = with_transfer (with_signals h (with_raised h.signals true)) t

-- "and when a command ends, well"
abbrev pub finish_of : Hot → Hot
finish_of h = raised_of h Idle

-- "or not": with its Error, and Status 51h
abbrev pub fail_of : Hot → ℕ → Hot
fail_of h e = raised_of (with_signals (with_regs h (with_error h.regs e)) (with_failed h.signals true)) Idle

-- "Abort: Error 04h, Status 51h, registers 2 to 6 kept"
abbrev pub abort_of : Hot → Hot
abort_of h = fail_of h 0x04

-- Sector Count and the address where a sector command ends
abbrev pub ended_at : Hot → AddressRegisters → ℕ → Hot
ended_at h at count = with_regs h (with_at (with_count h.regs count) at)

-- "Error 10h, Status 51h, the bad address, and the sectors left including it"
abbrev pub idnf_of : Hot → AddressRegisters → ℕ → Hot
idnf_of h at left = fail_of (ended_at h at left) 0x10
