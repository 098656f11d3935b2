-- Disks of one sector, just powered on with security enabled, and the blocks that guests send them: small, so that their runs compute.
use Prim.Native.Nat.{ℕ}
use mathlib.Core.Path.{◌≡◌, refl}
use mathlib.Core.Bool.{Bool, true, false}
use mathlib.Core.List.{List, [], ◌∷◌, ◌++◌, map}
use lib.ListN.{length, replicate}
use Rattle.geometry.specs.Geometry.{geometry_of}
use Rattle.lock.specs.declared.Secrets.{Secrets}
use Rattle.judging.specs.Judging.{opened_of}
use Rattle.settled.specs.Settled.{with_security}
use Rattle.face.specs.Face.{with_settled}
use Rattle.settled.specs.declared.Identity.{Identity}
use Rattle.face.specs.declared.Action.{Action}
use Rattle.face.specs.declared.Action.TheVariants.{ReadRegister, WriteRegister, WriteWord, PowerOn}
use Rattle.device.specs.Alone.{device_of}
use Rattle.device.specs.Host.{Ready}
use Rattle.device.specs.declared.Device.{Device}
use Rattle.laws.specs.Sessions.{Rules}
use Rattle.room.specs.Started.{started_face}
use Rattle.room.specs.Claims.{security_in, holding, Guarded, AlikeOutside}
use Rattle.room.proofs.Running.{running}

-- an identity of spaces
abbrev pub blank_identity : Identity
blank_identity = record { serial = replicate 20 0x20; firmware = replicate 8 0x20; model = replicate 40 0x20 }

-- locked at that level, with these passwords
abbrev pub locked_at : Bool → Secrets → Device
locked_at maximum x = device_of (started_face (geometry_of 1 1 1) blank_identity maximum true) x

-- a device with its lock opened
abbrev pub opened : Device → Device
opened d = device_of (with_settled d.face (with_security d.face.settled (opened_of (security_in d)))) d.secrets

-- a user password of 32 bytes u and a master password of 32 bytes v
abbrev pub passwords : ℕ → ℕ → Secrets
passwords u v = record { user = replicate 32 u; master = replicate 32 v }

-- a locked disk whose user password is bytes 1
abbrev pub disk : Device
disk = locked_at false (passwords 1 7)

-- a memory of 512 bytes v
abbrev pub filled : ℕ → List ℕ
filled v = replicate 512 v

-- a password block: word 0 picks the password, then its 16 words, the last one by itself
abbrev pub block_of : ℕ → ℕ → ℕ → List ℕ
block_of picks word last = picks ∷ replicate 15 word ++ (last ∷ replicate 239 0)

-- all words but the last of a block that picks the user password: it has 16 such words
abbrev pub but_the_last : ℕ → List ℕ
but_the_last word = 0 ∷ replicate 16 word ++ replicate 238 0

-- F2h and a block's words
abbrev pub unlocking : List ℕ → List Action
unlocking ws = WriteRegister 7 0xF2 ∷ map WriteWord ws

-- the same, and Status
abbrev pub unlocking_then_status : List ℕ → List Action
unlocking_then_status ws = unlocking ws ++ (ReadRegister 7 ∷ [])

-- in shape, whatever is in the buffer
pub locked_ready : (maximum : Bool) (x : Secrets) (b m : List ℕ) → length m ≡ 512 → Ready (holding (locked_at maximum x) b) m
unfolding running
locked_ready maximum x b m l = record { shaped = refl; long = l }

-- one of demand 3's devices, by rules whose power-on leaves it as it is
pub guarded : (r : Rules) (maximum : Bool) (x : Secrets) (m : List ℕ) → length m ≡ 512 → (r (locked_at maximum x) m PowerOn).outcome.device ≡ locked_at maximum x
    → Guarded r (locked_at maximum x) m
guarded r maximum x m l s =
    let k = locked_ready maximum x (locked_at maximum x).face.buffer m l in
    record { ready = k; started = record { before = locked_at maximum x; memory = m; ready = k; left = s }; enabled = refl }

-- two such disks are alike outside, whatever their passwords
pub alike_at : (maximum : Bool) (x y : Secrets) → AlikeOutside (locked_at maximum x) (locked_at maximum y)
alike_at maximum x y = record { geometry = refl; identity = refl; level = refl }
