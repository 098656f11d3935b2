-- Sectors: only a sector's 256th word stores it and only an accepted ERASE UNIT zeroes them; a sector stored is read back word by word.
use mathlib.Core.Bool.{Bool, true, false}
use mathlib.Core.Path.{◌≡◌, refl, sym, ap, ◌∙◌}
use mathlib.Core.List.{List}
use Prim.Native.Nat.{ℕ, ◌≤◌, ◌<◌}
use lib.Dec.{eqb}
use lib.ListN.{length}
use borrow.Author.Tests.{eq-eqb, lt-ltb, le-ltb}
use Rattle.base.specs.Choice.{pick}
use Rattle.base.proofs.Tests.{false≢true, pick_both}
use Rattle.address.specs.declared.Address.{Address}
use Rattle.address.specs.declared.Address.TheVariants.{Names}
use Rattle.address.specs.declared.Sector.{Sector}
use Rattle.block.specs.Words.{word_put}
use Rattle.block.specs.Sectors.{stored_at}
use Rattle.lock.specs.declared.Secrets.{Secrets}
use Rattle.face.specs.declared.Run.{Run}
use Rattle.face.specs.declared.Face.{Face}
use Rattle.face.specs.declared.Transfer.{Transfer}
use Rattle.face.specs.declared.Transfer.TheVariants.{Writing}
use Rattle.face.specs.declared.Action.{Action}
use Rattle.face.specs.declared.Action.TheVariants.{ReadRegister, WriteRegister, ReadWord, WriteWord, HardwareReset, PowerOn, Line}
use Rattle.fastpath.specs.Dev.{ignored_of}
use Rattle.transfers.specs.Sectors.{located}
use Rattle.transfers.specs.Words.{word_in}
use Rattle.writing.specs.Words.{store_as, write_last_sectors, write_run_sectors}
use Rattle.disk.specs.Actions.{write_word_as, write_word_of, act_of}
use Rattle.device.specs.Alone.{Step, alone_of}
use Rattle.device.specs.Host.{Ready, shaped_of, memory_length, step_of}
use Rattle.device.specs.declared.Device.{Device}

-- a call keeps the sectors where its action on the disk does
step_keeps : (d : Device) (m : List ℕ) (a : Action) → (act_of d.face d.secrets m a).sectors ≡ m → (step_of d m a).sectors ≡ m
unfolding step_of alone_of
step_keeps d m a e =
    pick_both (λ (s : Step). s.sectors ≡ m) (shaped_of d) _ _ (pick_both (λ (s : Step). s.sectors ≡ m) (eqb (length m) (memory_length d)) _ _ (pick_both (λ (s : Step). s.sectors ≡ m) (ignored_of d.face.hot a) _ _ refl e) refl) refl

-- an action that writes a data word
abbrev pub writes_word : Action → Bool
writes_word (ReadRegister n) = false
writes_word (WriteRegister n v) = false
writes_word ReadWord = false
writes_word (WriteWord w) = true
writes_word HardwareReset = false
writes_word PowerOn = false
writes_word Line = false

act_keeps : (f : Face) (x : Secrets) (m : List ℕ) (a : Action) → writes_word a ≡ false → (act_of f x m a).sectors ≡ m
unfolding act_of
act_keeps f x m (ReadRegister n) e = refl
act_keeps f x m (WriteRegister n v) e = refl
act_keeps f x m ReadWord e = refl
act_keeps f x m (WriteWord w) e = absurd (false≢true (sym e))
act_keeps f x m HardwareReset e = refl
act_keeps f x m PowerOn e = refl
act_keeps f x m Line e = refl

-- whatever is no data word written leaves every sector: reads, commands, resets, power-on, in shape or not
pub others_keep : (d : Device) (m : List ℕ) (a : Action) → writes_word a ≡ false → (step_of d m a).sectors ≡ m
others_keep d m a e = step_keeps d m a (act_keeps d.face d.secrets m a e)

partial_kept : (f : Face) (x : Secrets) (m : List ℕ) (w : ℕ) (r : Run) (t : Transfer) → t ≡ Writing r → r.word < 255 → (write_word_as f x m w t).sectors ≡ m
unfolding write_run_sectors
partial_kept f x m w r t e h = ap (λ (u : Transfer). (write_word_as f x m w u).sectors) e ∙ rw (lt-ltb r.word 255 h)

-- a word that is not its sector's last stores nothing
pub partial_not_stored : (d : Device) (m : List ℕ) (w : ℕ) (r : Run) → d.face.hot.transfer ≡ Writing r → r.word < 255 → (step_of d m (WriteWord w)).sectors ≡ m
unfolding act_of write_word_of
partial_not_stored d m w r e h = step_keeps d m (WriteWord w) (partial_kept d.face d.secrets m w r d.face.hot.transfer e h)

-- in shape over memory of its length, a data word is the disk's to take
pub ready_word : (d : Device) (m : List ℕ) (w : ℕ) → Ready d m → (step_of d m (WriteWord w)).sectors ≡ (write_word_as d.face d.secrets m w d.face.hot.transfer).sectors
unfolding step_of alone_of ignored_of act_of write_word_of
ready_word d m w k = simp (k.shaped, eq-eqb _ _ k.long)

last_stored : (f : Face) (m : List ℕ) (w : ℕ) (r : Run) (x : Sector) → 255 ≤ r.word → located f.settled r.at ≡ Names x
    → write_run_sectors f m r w ≡ stored_at m x.number (word_put f.buffer r.word w)
unfolding write_run_sectors write_last_sectors
last_stored f m w r x h e =
    ap (λ (b : Bool). pick b m (store_as (word_in f r.word w) m (located f.settled r.at))) (le-ltb r.word 255 h)
    ∙ ap (λ (a : Address). store_as (word_in f r.word w) m a) e

-- a sector's 256th word stores the buffer, that word in it, as the sector that the run names, and nothing else
pub word_stores : (d : Device) (m : List ℕ) (w : ℕ) (r : Run) (x : Sector) → Ready d m → d.face.hot.transfer ≡ Writing r → 255 ≤ r.word
    → located d.face.settled r.at ≡ Names x → (step_of d m (WriteWord w)).sectors ≡ stored_at m x.number (word_put d.face.buffer r.word w)
word_stores d m w r x k e h n =
    ready_word d m w k ∙ ap (λ (u : Transfer). (write_word_as d.face d.secrets m w u).sectors) e ∙ last_stored d.face m w r x h n
