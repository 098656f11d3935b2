-- What commands and resets leave of hot and settled part goes back over the state; what is ignored or turned away leaves it.
use Prim.Native.Nat.{ℕ}
use mathlib.Core.Path.{◌≡◌, refl, sym, ap, ◌∙◌}
use mathlib.Core.Bool.{true, false}
use mathlib.Core.List.{List}
use borrow.Author.Tests.{ne_eqb}
use lib.ListN.{length}
use lib.Seq.{sets}
use Rattle.base.specs.Choice.{within}
use Rattle.settled.specs.declared.Settled.{Settled}
use Rattle.face.specs.Face.{face_with}
use Rattle.face.specs.Reads.{number_of}
use Rattle.face.specs.declared.Hot.{Hot}
use Rattle.face.specs.declared.Face.{Face}
use Rattle.face.specs.declared.Action.{Action}
use Rattle.face.specs.declared.Action.TheVariants.{WriteRegister, HardwareReset, PowerOn}
use Rattle.face.specs.declared.Answer.TheVariants.{Done, NoRegister}
use Rattle.fastpath.specs.Dev.{ignored_of}
use Rattle.resets.specs.Resets.{powered_on_face}
use Rattle.resets.specs.Control.{control_of}
use Rattle.commands.specs.Gate.{command_of}
use Rattle.disk.specs.Actions.{write_register_of, act_of}
use Rattle.device.specs.Alone.{device_of, shown, alone_of}
use Rattle.device.specs.declared.Device.{Device}
use Rattle.layout.specs.Stored.{hot_stored, settled_stored, secrets_stored, device_stored, formed_of}
use Rattle.layout.specs.Bytes.{front_bytes}
use Rattle.layout.proofs.Back.{formed_clauses, state_back}
use Rattle.lent.specs.Lent.{host_reply, lent_of, GivesBack}
use Rattle.lent.specs.declared.Reply.{Reply}
use Rattle.lent.proofs.Lending.{LowBytes, front_put}

-- ---- nothing changes

-- the device is left: its bytes are those that were lent
left_gives : (b x m : List ℕ) (a : Action) (n : ℕ) (r : Reply) → formed_of b ≡ true → LowBytes b
    → alone_of (device_stored b x) m a ≡ record { outcome = record { number = n; value = 0; device = device_stored b x }; sectors = m } → r ≡ host_reply n 0
    → GivesBack (lent_of (alone_of (device_stored b x) m a)) r b x m
left_gives b x m a n r f low e er =
    rw e (record { reply = er; state = sym (state_back b x (formed_clauses b f) low.geometry low.translation); buffer = refl; sectors = refl })

-- "do nothing"
pub ignored_gives : (b x m : List ℕ) (a : Action) (h : Hot) (r : Reply) → formed_of b ≡ true → LowBytes b → h ≡ hot_stored b → ignored_of h a ≡ true → r ≡ host_reply 0 0
    → GivesBack (lent_of (alone_of (device_stored b x) m a)) r b x m
unfolding alone_of
ignored_gives b x m a h r f low eh i er =
    let j : ignored_of (hot_stored b) a ≡ true = rw eh at i in
    left_gives b x m a 0 r f low (rw j) er

-- no such register
pub unknown_gives : (b x m : List ℕ) (n v : ℕ) (r : Reply) → formed_of b ≡ true → LowBytes b → within 1 6 n ≡ false → (n ≡ 7 → ⊥) → (n ≡ 8 → ⊥) → r ≡ host_reply (number_of NoRegister) 0
    → GivesBack (lent_of (alone_of (device_stored b x) m (WriteRegister n v))) r b x m
unfolding alone_of ignored_of act_of write_register_of
unknown_gives b x m n v r f low w seven eight er = left_gives b x m (WriteRegister n v) 1 r f low (rw (ne_eqb n 7 seven, w, ne_eqb n 8 eight)) er

-- ---- hot and settled part change

-- the face that they make with the buffer is the one that the action leaves
front_gives : (b x m : List ℕ) (a : Action) (g : Face) (h : Hot) (s : Settled) (r : Reply) (b' x' : List ℕ) → formed_of b ≡ true
    → alone_of (device_stored b x) m a ≡ shown (device_of g (secrets_stored b)) m Done 0 → face_with h s x' ≡ g
    → length (front_bytes h s) ≡ 99 → b' ≡ sets b 0 (front_bytes h s) → r ≡ host_reply 0 0 → GivesBack (lent_of (alone_of (device_stored b x) m a)) r b' x' m
front_gives b x m a g h s r b' x' f e eg l eb er =
    rw (e ∙ ap (λ (z : Face). shown (device_of z (secrets_stored b)) m Done 0) (sym eg))
    (record { reply = er; state = eb ∙ front_put b h s f l; buffer = refl; sectors = refl })

-- what a definition gives of the parts that the bytes hold
of_parts : (b x : List ℕ) (h : Hot) (s : Settled) (k : Face → Face) → h ≡ hot_stored b → s ≡ settled_stored b → k (face_with h s x) ≡ k (device_stored b x).face
of_parts b x h s k eh es = λ i. k (face_with (eh i) (es i) x)

command_step : (d : Device) (m : List ℕ) (v : ℕ) → ignored_of d.face.hot (WriteRegister 7 v) ≡ false
    → alone_of d m (WriteRegister 7 v) ≡ shown (device_of (command_of d.face m v) d.secrets) m Done 0
unfolding alone_of act_of write_register_of within
command_step d m v e = rw e

pub command_gives : (b x m : List ℕ) (v : ℕ) (h : Hot) (s : Settled) (h' : Hot) (s' : Settled) (r : Reply) (b' x' : List ℕ) → formed_of b ≡ true
    → h ≡ hot_stored b → s ≡ settled_stored b → ignored_of h (WriteRegister 7 v) ≡ false → face_with h' s' x' ≡ command_of (face_with h s x) m v
    → length (front_bytes h' s') ≡ 99 → b' ≡ sets b 0 (front_bytes h' s') → r ≡ host_reply 0 0 → GivesBack (lent_of (alone_of (device_stored b x) m (WriteRegister 7 v))) r b' x' m
command_gives b x m v h s h' s' r b' x' f eh es i e l eb er =
    front_gives b x m (WriteRegister 7 v) _ h' s' r b' x' f (command_step (device_stored b x) m v (rw eh at i))
    (e ∙ of_parts b x h s (λ (g : Face). command_of g m v) eh es) l eb er

control_step : (d : Device) (m : List ℕ) (v : ℕ) → alone_of d m (WriteRegister 8 v) ≡ shown (device_of (control_of d.face v) d.secrets) m Done 0
unfolding alone_of ignored_of act_of write_register_of within
control_step d m v = refl

pub control_gives : (b x m : List ℕ) (v : ℕ) (h : Hot) (s : Settled) (h' : Hot) (s' : Settled) (r : Reply) (b' x' : List ℕ) → formed_of b ≡ true
    → h ≡ hot_stored b → s ≡ settled_stored b → face_with h' s' x' ≡ control_of (face_with h s x) v
    → length (front_bytes h' s') ≡ 99 → b' ≡ sets b 0 (front_bytes h' s') → r ≡ host_reply 0 0 → GivesBack (lent_of (alone_of (device_stored b x) m (WriteRegister 8 v))) r b' x' m
control_gives b x m v h s h' s' r b' x' f eh es e l eb er =
    front_gives b x m (WriteRegister 8 v) _ h' s' r b' x' f (control_step (device_stored b x) m v)
    (e ∙ of_parts b x h s (λ (g : Face). control_of g v) eh es) l eb er

power_step : (d : Device) (m : List ℕ) → alone_of d m PowerOn ≡ shown (device_of (powered_on_face d.face) d.secrets) m Done 0
unfolding alone_of ignored_of act_of
power_step d m = refl

pub power_gives : (b x m : List ℕ) (s : Settled) (h' : Hot) (s' : Settled) (r : Reply) (b' x' : List ℕ) → formed_of b ≡ true
    → s ≡ settled_stored b → face_with h' s' x' ≡ powered_on_face (face_with (hot_stored b) s x)
    → length (front_bytes h' s') ≡ 99 → b' ≡ sets b 0 (front_bytes h' s') → r ≡ host_reply 0 0 → GivesBack (lent_of (alone_of (device_stored b x) m PowerOn)) r b' x' m
power_gives b x m s h' s' r b' x' f es e l eb er =
    front_gives b x m PowerOn _ h' s' r b' x' f (power_step (device_stored b x) m) (e ∙ of_parts b x (hot_stored b) s powered_on_face refl es) l eb er

-- hardware reset is power-on
pub reset_gives : (b x m : List ℕ) (r : Reply) (b' x' : List ℕ) → GivesBack (lent_of (alone_of (device_stored b x) m PowerOn)) r b' x' m
    → GivesBack (lent_of (alone_of (device_stored b x) m HardwareReset)) r b' x' m
unfolding alone_of ignored_of act_of
reset_gives b x m r b' x' k = k
