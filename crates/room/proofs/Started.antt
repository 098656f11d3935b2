-- A start makes the face anew from geometry, identity, level and enabled mark, so just powered-on devices that agree on these have the same face.
use mathlib.Core.Path.{◌≡◌, sym, ap, ◌∙◌}
use mathlib.Core.Bool.{Bool, true}
use mathlib.Core.List.{List}
use Prim.Native.Nat.{ℕ}
use lib.ListN.{length}
use Rattle.lock.specs.Lock.{is_locked, starting_lock}
use Rattle.face.specs.declared.Face.{Face}
use Rattle.face.specs.declared.Action.TheVariants.{HardwareReset, PowerOn}
use Rattle.fastpath.specs.Dev.{ignored_of}
use Rattle.disk.specs.Actions.{act_of}
use Rattle.device.specs.Alone.{Step, alone_of}
use Rattle.device.specs.Host.{Ready, step_of}
use Rattle.device.specs.declared.Device.{Device}
use Rattle.laws.proofs.Steps.{ready_step}
use Rattle.laws.proofs.Lengths.{Whole, zero_length}
use Rattle.room.specs.Started.{started_face}
use Rattle.room.specs.Claims.{security_in, JustPoweredOn, Guarded, LeavesNothingElse, WhateverCameBefore}
use Rattle.room.proofs.InShape.{session_whole}

-- what power-on and hardware reset leave
pub leaves_nothing_else : LeavesNothingElse step_of
unfolding alone_of ignored_of act_of
leaves_nothing_else d m k = record { by_power_on = ready_step d m PowerOn k; by_hardware_reset = ready_step d m HardwareReset k }

-- the face that a start makes of a device's geometry, identity and level, and this enabled mark
abbrev pub started_by : Device → Bool → Face
started_by d enabled = started_face d.face.settled.geometry d.face.settled.identity (security_in d).maximum enabled

-- a just powered-on device has it
pub started_face_law : (d : Device) → JustPoweredOn step_of d → d.face ≡ started_by d (security_in d).enabled
started_face_law d p =
    let e = sym (ap (λ (s : Step). s.outcome.device) (leaves_nothing_else p.before p.memory p.ready).by_power_on) ∙ p.left in
    sym (ap (λ (y : Device). y.face) e) ∙ ap (λ (y : Device). started_by y (security_in y).enabled) e

pub guarded_face : {d : Device} {m : List ℕ} → Guarded step_of d m → d.face ≡ started_by d true
guarded_face {d} g = started_face_law d g.started ∙ ap (started_by d) g.enabled

pub guarded_locked : {d : Device} {m : List ℕ} → Guarded step_of d m → is_locked (security_in d).lock ≡ true
unfolding starting_lock
guarded_locked g = ap (λ (f : Face). is_locked f.settled.security.lock) (guarded_face g)

-- so its buffer is a block
pub started_whole : (d : Device) (m : List ℕ) → Ready d m → JustPoweredOn step_of d → Whole d m
started_whole d m k p = record { ready = k; block = ap (λ (f : Face). length f.buffer) (started_face_law d p) ∙ zero_length }

pub whatever_came_before : WhateverCameBefore step_of
whatever_came_before d m l k = leaves_nothing_else _ _ (session_whole d m l k).ready
