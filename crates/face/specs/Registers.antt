-- Registers 1 to 6 (document 01, "Registers").
use Rattle.std.specs.Prelude.{ℕ}
use Rattle.address.specs.declared.AddressRegisters.{AddressRegisters}
use Rattle.face.specs.declared.Registers.{Registers}

-- "Sector Number 01h, cylinders and Device/Head 00h"
abbrev pub start_address : AddressRegisters
start_address = record { sector = 1; low = 0; high = 0; head = 0 }

-- "Start values: Error 01h, Features 00h, Sector Count 01h"
abbrev pub start_registers : Registers
start_registers = record { error = 1; features = 0; count = 1; at = start_address }

-- with another Error
abbrev pub with_error : Registers → ℕ → Registers
with_error r x = record { error = x; features = r.features; count = r.count; at = r.at }

-- with another Features
abbrev pub with_features : Registers → ℕ → Registers
with_features r x = record { error = r.error; features = x; count = r.count; at = r.at }

-- with another Sector Count
abbrev pub with_count : Registers → ℕ → Registers
with_count r x = record { error = r.error; features = r.features; count = x; at = r.at }

-- with another address
abbrev pub with_at : Registers → AddressRegisters → Registers
with_at r x = record { error = r.error; features = r.features; count = r.count; at = x }

-- with another Cylinder Low
abbrev pub with_low : AddressRegisters → ℕ → AddressRegisters
with_low a x = record { sector = a.sector; low = x; high = a.high; head = a.head }

-- with another Cylinder High
abbrev pub with_high : AddressRegisters → ℕ → AddressRegisters
with_high a x = record { sector = a.sector; low = a.low; high = x; head = a.head }

-- with another Device/Head
abbrev pub with_device_head : AddressRegisters → ℕ → AddressRegisters
with_device_head a x = record { sector = a.sector; low = a.low; high = a.high; head = x }
