-- Document 01's twelve numbers, as a single list ("Numbers to settle by proof and by run").
use Rattle.std.specs.Prelude.{ℕ, ◌<◌, ◌≡◌, Bool, true, false, List, ◌∷◌, length, drop, replicate, Some}
use Rattle.geometry.specs.Geometry.{capacity_of}
use Rattle.geometry.specs.Translation.{factory_of, initialized_of}
use Rattle.address.specs.Registers.{lba_selected}
use Rattle.address.specs.Address.{names, address_of}
use Rattle.address.specs.declared.AddressRegisters.{AddressRegisters}
use Rattle.address.specs.declared.Address.TheVariants.{Faults}
use Rattle.address.proofs.Numbers.{small, at_chs, at_lba}
use Rattle.block.specs.Sectors.{sector_at}
use Rattle.lock.specs.declared.Lock.TheVariants.{Open, Locked, Frozen}
use Rattle.settled.specs.Identity.{identity_fits}
use Rattle.settled.specs.declared.Identity.{Identity}
use Rattle.identify.specs.SecurityWord.{security_word}
use Rattle.identify.proofs.SecurityNumbers.{settings}
use Rattle.face.specs.declared.Action.{Action}
use Rattle.face.specs.declared.Action.TheVariants.{WriteRegister, ReadWord}
use Rattle.device.specs.Host.{step_of}
use Rattle.device.specs.Setup.{fresh_of}
use Rattle.device.specs.declared.Device.{Device}
use Rattle.laws.proofs.ReadBack.{words_from}
use Rattle.laws.specs.Sessions.{Rules, session_of, values_of, register_after}

-- "reading LBA 63 with count 2", n data words of it
abbrev pub reading_on : ℕ → List Action
reading_on n =
    WriteRegister 2 2 ∷ WriteRegister 3 63 ∷ WriteRegister 4 0 ∷ WriteRegister 5 0 ∷ WriteRegister 6 0x40 ∷ WriteRegister 7 0x20
    ∷ replicate n ReadWord

-- it "ends after 256 words with Error 10h, count 1": a word is due after 255 of them, none after 256, and they are sector 63
pub record EndsAfter256 (r : Rules) (d : Device) (m : List ℕ) : Type 0 where
  pub due : register_after r d m (reading_on 255) 7 ≡ 0x58
  pub over : register_after r d m (reading_on 256) 7 ≡ 0x51
  pub error : register_after r d m (reading_on 256) 1 ≡ 0x10
  pub count : register_after r d m (reading_on 256) 2 ≡ 1
  pub words : values_of (drop 6 (session_of r d m (reading_on 256)).answers) ≡ words_from (sector_at m 63) 0 256

-- "Proved together over the definitions, as a single list"
pub record TwelveNumbers : Type 0 where
  pub number1 : capacity_of small ≡ 64
  pub number2 : at_chs 0 0 1 ≡ names 0
  pub number3 : at_chs 3 1 8 ≡ names 63
  pub number4 : at_chs 4 0 1 ≡ Faults
  pub number5 : (r : AddressRegisters) → lba_selected r ≡ false → r.sector ≡ 0 → address_of small (factory_of small) r ≡ Faults
  pub number6 : at_lba 64 ≡ Faults
  pub number7 : security_word (settings Open false false 5 false) ≡ 0x0001
  pub number8 : (a : ℕ) (p : Bool) → 0 < a → security_word (settings Locked true false a p) ≡ 0x0007
  pub number9 : (p : Bool) → security_word (settings Locked true true 0 p) ≡ 0x0117
  pub number10 : (a : ℕ) (p : Bool) → 0 < a → security_word (settings Frozen true false a p) ≡ 0x000B
  pub number11 : initialized_of small 8 0 ≡ Some (record { cylinders = 8; heads = 1; sectors = 8 })
  pub number12 : (i : Identity) (p m : List ℕ) → identity_fits i ≡ true → length m ≡ 32768 → EndsAfter256 step_of (fresh_of small i p) m
