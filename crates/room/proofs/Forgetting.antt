-- A password block leaves no word of itself: judged, the buffer is zeroed with its end; dropped, it is zeroed before the Command or reset goes on.
use mathlib.Core.Path.{◌≡◌, refl, sym, ap, ◌∙◌}
use mathlib.Core.Bool.{true, false}
use mathlib.Core.List.{List}
use Prim.Native.Nat.{ℕ, ◌≤◌}
use lib.Dec.{eqb}
use borrow.Author.Tests.{eqb-true}
use Rattle.base.specs.Choice.{within}
use Rattle.base.proofs.Tests.{false≢true, either_way}
use Rattle.block.specs.Sectors.{zero_block}
use Rattle.face.specs.Face.{with_hot, with_buffer, idle_face}
use Rattle.face.specs.Reads.{is_idle}
use Rattle.face.specs.Ends.{cleared_of}
use Rattle.face.specs.declared.PasswordBlock.{PasswordBlock}
use Rattle.face.specs.declared.Transfer.TheVariants.{TakingPassword}
use Rattle.face.specs.declared.Face.{Face}
use Rattle.face.specs.declared.Action.{Action}
use Rattle.face.specs.declared.Action.TheVariants.{ReadRegister, WriteRegister, ReadWord, WriteWord, HardwareReset, PowerOn, Line}
use Rattle.face.specs.declared.Answer.TheVariants.{Done}
use Rattle.resets.specs.Resets.{drop_as, dropped_of}
use Rattle.resets.specs.Control.{srst_of, control_of}
use Rattle.fastpath.specs.Dev.{dev_set, ignored_of}
use Rattle.transfers.specs.Words.{told}
use Rattle.face.specs.declared.Shows.{Shows}
use Rattle.commands.specs.Gate.{begun_of, stations_of, command_of}
use Rattle.shape.specs.Shape.{parts_fit}
use Rattle.effects.specs.Effects.{effect}
use Rattle.disk.specs.Actions.{told_acted, write_register_of, act_of}
use Rattle.device.specs.Alone.{step_as, alone_of}
use Rattle.device.specs.Host.{Ready, shaped_of, step_of}
use Rattle.device.specs.declared.Device.{Device}
use Rattle.device.proofs.Memories.{shaped_disk}
use Rattle.laws.proofs.Shape.{open_free}
use Rattle.laws.proofs.Reached.{open_clear}
use Rattle.laws.proofs.Opens.{last_word_face}
use Rattle.laws.proofs.Steps.{ready_fits, ready_step, clear_acts}
use Rattle.room.specs.Claims.{holding, drops_block, ForgetsBlocks}

-- ---- judged

judged_zero : (d : Device) (m : List ℕ) (b : PasswordBlock) (w : ℕ) → Ready d m → d.face.hot.transfer ≡ TakingPassword b → 255 ≤ b.word
    → (step_of d m (WriteWord w)).outcome.device.face.buffer ≡ zero_block
judged_zero d m b w k e h =
    ap (λ (f : Face). f.buffer) (last_word_face d m b.purpose b w k record { opened = e; purpose = refl; last = h })

-- ---- dropped

-- a Command begins with the buffer zeroed
begun_forgets : (f : Face) (c : List ℕ) (b : PasswordBlock) → f.hot.transfer ≡ TakingPassword b → begun_of f ≡ begun_of (with_buffer f c)
unfolding begun_of dropped_of
begun_forgets f c b e =
    ap (λ (g : Face). with_hot g (cleared_of g.hot))
    (ap (drop_as (idle_face f)) e ∙ sym (ap (drop_as (idle_face (with_buffer f c))) e))

command_forgets : (f : Face) (c m : List ℕ) (code : ℕ) (b : PasswordBlock) → f.hot.transfer ≡ TakingPassword b → f.hot.signals.held ≡ false
    → command_of f m code ≡ command_of (with_buffer f c) m code
unfolding command_of
command_forgets f c m code b e h = simp h (ap (λ (g : Face). stations_of g m code) (begun_forgets f c b e))

register_forgets : (d : Device) (m c : List ℕ) (n v : ℕ) → dev_set d.face.hot ≡ false → write_register_of d.face m n v ≡ write_register_of (with_buffer d.face c) m n v
    → alone_of d m (WriteRegister n v) ≡ alone_of (holding d c) m (WriteRegister n v)
unfolding act_of
register_forgets d m c n v q e =
    clear_acts d m (WriteRegister n v) q ∙ ap (λ (t : Shows Face). step_as (effect (told_acted d.secrets t) m)) e
    ∙ sym (clear_acts (holding d c) m (WriteRegister n v) q)

-- registers 7 and 8 are what a drop is written to
write_forgets : (f : Face) (c m : List ℕ) (n v : ℕ) (b : PasswordBlock) → f.hot.transfer ≡ TakingPassword b → f.hot.signals.held ≡ false → drops_block (WriteRegister n v) ≡ true
    → write_register_of f m n v ≡ write_register_of (with_buffer f c) m n v
unfolding write_register_of control_of within
write_forgets f c m n v b e h k =
    either_way (eqb n 7)
    (λ q. let z : n ≡ 7 = eqb-true n 7 q in rw z (ap (λ (g : Face). told g Done 0) (command_forgets f c m v b e h)))
    (λ q. either_way (eqb n 8)
    (λ p. let z : n ≡ 8 = eqb-true n 8 p in let s : srst_of v ≡ true = simp (q, p) at k in rw (z, s) refl)
    (λ p. absurd (false≢true (simp (q, p) at k))))

alone_forgets : (d : Device) (m c : List ℕ) (b : PasswordBlock) (a : Action) → d.face.hot.transfer ≡ TakingPassword b → d.face.hot.signals.held ≡ false → dev_set d.face.hot ≡ false
    → drops_block a ≡ true → alone_of d m a ≡ alone_of (holding d c) m a
unfolding alone_of ignored_of act_of
alone_forgets d m c b (ReadRegister n) e h q k = absurd (false≢true k)
alone_forgets d m c b (WriteRegister n v) e h q k = register_forgets d m c n v q (write_forgets d.face c m n v b e h k)
alone_forgets d m c b ReadWord e h q k = absurd (false≢true k)
alone_forgets d m c b (WriteWord w) e h q k = absurd (false≢true k)
alone_forgets d m c b HardwareReset e h q k = refl
alone_forgets d m c b PowerOn e h q k = refl
alone_forgets d m c b Line e h q k = absurd (false≢true k)

-- the shape does not look at the buffer
holding_ready : (d : Device) (m c : List ℕ) → Ready d m → Ready (holding d c) m
unfolding shaped_of parts_fit
holding_ready d m c k = record { shaped = k.shaped; long = k.long }

-- no password block leaves a word of itself
pub forgets_blocks : ForgetsBlocks step_of
forgets_blocks d m b k e =
    let o : is_idle d.face.hot.transfer ≡ false = ap is_idle e in
    record {
      judged = λ w h. judged_zero d m b w k e h;
      dropped =
          λ a c h. ready_step d m a k
          ∙ alone_forgets d m c b a e (open_free d.face (ready_fits d m k) o) (open_clear d.face.hot (shaped_disk d k.shaped).1 o) h
          ∙ sym (ready_step (holding d c) m a (holding_ready d m c k));
    }
