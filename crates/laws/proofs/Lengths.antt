-- A device in shape over its memory stays so, its buffer a block: sectors stored or zeroed keep the length of the memory, and only blocks and words get into the buffer.
use mathlib.Core.Bool.{true}
use mathlib.Core.Path.{◌≡◌, refl, ◌∙◌}
use mathlib.Core.List.{List}
use Prim.Native.Nat.{ℕ, ◌+◌, ◌*◌, ◌≤◌}
use native.Mathlib.Omega.{arith}
use lib.Dec.{ltb}
use lib.ListN.{length, drop, length-drop, length-replicate}
use lib.Seq.{length-take-le}
use Rattle.base.proofs.Tests.{pick_both}
use Rattle.geometry.specs.Geometry.{geometry_fits}
use Rattle.geometry.specs.Translation.{factory_of}
use Rattle.geometry.proofs.Translations.{made_allowed, factory_allowed}
use Rattle.block.specs.Sectors.{zero_block, sector_at}
use Rattle.block.proofs.WordLaws.{put_length}
use Rattle.block.proofs.SectorLaws.{stored_length, zeroed_length}
use Rattle.lock.specs.declared.Secrets.{Secrets}
use Rattle.judging.specs.declared.Verdict.{Verdict}
use Rattle.judging.specs.declared.Verdict.TheVariants.{EndsWell, Aborts, Erases}
use Rattle.settled.proofs.Clauses.{settled_clauses}
use Rattle.face.specs.declared.Run.{Run}
use Rattle.face.specs.declared.Transfer.{Transfer}
use Rattle.face.specs.declared.Transfer.TheVariants.{Idle, Reading, Writing, ReadingBuffer, WritingBuffer, TakingPassword}
use Rattle.face.specs.declared.Face.{Face}
use Rattle.face.specs.declared.Action.{Action}
use Rattle.face.specs.declared.Action.TheVariants.{ReadRegister, WriteRegister, ReadWord, WriteWord, HardwareReset, PowerOn, Line}
use Rattle.fastpath.specs.Dev.{ignored_of}
use Rattle.identify.proofs.ReadBack.{identify_length}
use Rattle.transfers.specs.Sectors.{Memory, located}
use Rattle.transfers.specs.Words.{word_in}
use Rattle.transfers.proofs.Reached.{memory_room}
use Rattle.writing.specs.Words.{store_as, write_last_sectors, write_run_sectors}
use Rattle.password.specs.Passwords.{sectors_as, judgement_of, password_last_sectors, password_word_sectors}
use Rattle.disk.specs.Actions.{write_word_as, write_word_of, act_of}
use Rattle.device.specs.Alone.{Step, alone_of}
use Rattle.device.specs.Host.{Ready, step_of}
use Rattle.device.specs.declared.Device.{Device}
use Rattle.device.proofs.Memories.{shaped_memory}
use Rattle.laws.proofs.Shape.{address_each}
use Rattle.laws.proofs.Lasting.{Lasts, act_lasts}
use Rattle.laws.proofs.Steps.{ready_fits, ready_step, ready_after}

-- in shape over its memory, the buffer 512 bytes long
pub record Whole (d : Device) (m : List ℕ) : Type 0 where
  pub ready : Ready d m
  pub block : length d.face.buffer ≡ 512

-- ---- the buffer

sector_length : (m : List ℕ) (n : ℕ) → 512 * n + 512 ≤ length m → length (sector_at m n) ≡ 512
unfolding sector_at
sector_length m n h = length-take-le 512 (drop (512 * n) m) (simp length-drop (omega arith))

pub zero_length : length zero_block ≡ 512
unfolding zero_block
zero_length = length-replicate {A = ℕ} 512 0

-- the geometry is within its limits, the memory the disk's, and the buffer a block
abbrev Sized : List ℕ → Face → Type 0
Sized m f = (geometry_fits f.settled.geometry ≡ true) × Memory f.settled.geometry f.settled.translation m × (length f.buffer ≡ 512)

factory_memory : (m : List ℕ) (f : Face) → Sized m f → Memory f.settled.geometry (factory_of f.settled.geometry) m
factory_memory m f p = record { allowed = factory_allowed f.settled.geometry p.0; long = p.1.long }

sized_lasts : (m : List ℕ) → Lasts m (Sized m)
sized_lasts m =
    record {
      hot = λ f h p. p;
      made = λ f n h t e p. (p.0, record { allowed = made_allowed f.settled.geometry n h t e; long = p.1.long }, p.2);
      factory = λ f p. (p.0, factory_memory m f p, p.2);
      prepared = λ f p. p;
      unprepared = λ f p. p;
      frozen = λ f l p. p;
      zeroed = λ f p. (p.0, p.1, zero_length);
      sector = λ f at x e p. (p.0, p.1, sector_length m x.number (memory_room p.1 at x e));
      identified = λ f p. (p.0, p.1, identify_length f.settled);
      word = λ f n w p. (p.0, p.1, put_length f.buffer n w ∙ p.2);
    }

act_sized : (f : Face) (x : Secrets) (m : List ℕ) (a : Action) → Sized m f → Sized m (act_of f x m a).acted.face
act_sized f x m a p =
    act_lasts (sized_lasts m) f x a (p.0, factory_memory m f p, zero_length) (λ u b. (p.0, p.1, zero_length)) p

-- ---- the sectors

store_length : (f : Face) (m : List ℕ) (r : Run) (w : ℕ) → Sized m f → length (write_run_sectors f m r w) ≡ length m
unfolding write_run_sectors write_last_sectors
store_length f m r w p =
    pick_both P (ltb r.word 255) _ _ refl
    (address_each P (store_as (word_in f r.word w) m) (located f.settled r.at)
    (λ x e. stored_length record { inside = memory_room p.1 r.at x e; whole = put_length f.buffer r.word w ∙ p.2 })
    refl)
  where
    P : List ℕ → Type 0
    P s = length s ≡ length m

verdict_length : (m : List ℕ) (v : Verdict) → length (sectors_as m v) ≡ length m
verdict_length m EndsWell = refl
verdict_length m Aborts = refl
verdict_length m Erases = zeroed_length m

write_word_length : (f : Face) (x : Secrets) (m : List ℕ) (w : ℕ) (t : Transfer) → Sized m f → length (write_word_as f x m w t).sectors ≡ length m
unfolding password_word_sectors password_last_sectors
write_word_length f x m w Idle p = refl
write_word_length f x m w (Reading r) p = refl
write_word_length f x m w (Writing r) p = store_length f m r w p
write_word_length f x m w (ReadingBuffer n) p = refl
write_word_length f x m w (WritingBuffer n) p = refl
write_word_length f x m w (TakingPassword b) p =
    pick_both (λ (s : List ℕ). length s ≡ length m) (ltb b.word 255) _ _ refl (verdict_length m (judgement_of (word_in f b.word w) x b.purpose).verdict)

act_length : (f : Face) (x : Secrets) (m : List ℕ) (a : Action) → Sized m f → length (act_of f x m a).sectors ≡ length m
unfolding act_of write_word_of
act_length f x m (ReadRegister n) p = refl
act_length f x m (WriteRegister n v) p = refl
act_length f x m ReadWord p = refl
act_length f x m (WriteWord w) p = write_word_length f x m w f.hot.transfer p
act_length f x m HardwareReset p = refl
act_length f x m PowerOn p = refl
act_length f x m Line p = refl

-- ---- the device

pub step_whole : (d : Device) (m : List ℕ) (a : Action) → Whole d m → Whole (step_of d m a).outcome.device (step_of d m a).sectors
unfolding alone_of
step_whole d m a k = rw (ready_step d m a k.ready) record { ready = ready_after d m a _ k.ready refl long; block = block }
  where
    sized : Sized m d.face
    sized = (
      (settled_clauses d.face.settled (ready_fits d m k.ready).sound).geometry,
      shaped_memory d m k.ready.shaped k.ready.long,
      k.block,
    )

    long : length (alone_of d m a).sectors ≡ length m
    long = pick_both (λ (s : Step). length s.sectors ≡ length m) (ignored_of d.face.hot a) _ _ refl (act_length d.face d.secrets m a sized)

    block : length (alone_of d m a).outcome.device.face.buffer ≡ 512
    block =
        pick_both (λ (s : Step). length s.outcome.device.face.buffer ≡ 512) (ignored_of d.face.hot a) _ _ k.block (act_sized d.face d.secrets m a sized).2
