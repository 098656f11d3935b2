-- The bytes of a device hold it, whatever its transfer: what is written is what is read.
use Prim.Native.Nat.{ℕ, ◌+◌, ◌*◌, ◌/◌, ◌%◌}
use mathlib.Core.Bool.{Bool, true, false}
use mathlib.Core.Path.{◌≡◌, refl, ap, ◌∙◌}
use mathlib.Core.List.{List, [], ◌++◌, append_assoc, append-nil}
use native.Mathlib.Omega.{arith}
use lib.ListN.{length, take, drop, replicate, length-append}
use lib.Seq.{take_at, drop_at}
use Rattle.lock.specs.declared.Lock.{Lock}
use Rattle.lock.specs.declared.Lock.TheVariants.{Open, Locked, Frozen}
use Rattle.lock.specs.declared.Purpose.{Purpose}
use Rattle.lock.specs.declared.Purpose.TheVariants.{Set, Unlock, Erase, Disable}
use Rattle.lock.specs.declared.Secrets.{Secrets}
use Rattle.settled.specs.declared.Settled.{Settled}
use Rattle.face.specs.declared.Transfer.{Transfer}
use Rattle.face.specs.declared.Transfer.TheVariants.{Idle, Reading, Writing, ReadingBuffer, WritingBuffer, TakingPassword}
use Rattle.face.specs.declared.Hot.{Hot}
use Rattle.device.specs.declared.Device.{Device}
use Rattle.layout.specs.Stored.{mark_stored, block_of, transfer_stored, hot_stored, lock_stored, settled_stored, secrets_stored, device_stored}
use Rattle.layout.specs.Bytes.{mark_byte, hot_bytes, lock_byte, rest_bytes, state_of}

-- the arrays of a device have the lengths of their types
pub record Arrays (s : Settled) (x : Secrets) : Type 0 where
  pub serial : length s.identity.serial ≡ 20
  pub firmware : length s.identity.firmware ≡ 8
  pub model : length s.identity.model ≡ 40
  pub user : length x.user ≡ 32
  pub master : length x.master ≡ 32

mark_forth : (x : Bool) → mark_stored (mark_byte x) ≡ x
mark_forth true = refl
mark_forth false = refl

lock_forth : (l : Lock) → lock_stored (lock_byte l) ≡ l
unfolding lock_stored
lock_forth Open = refl
lock_forth Locked = refl
lock_forth Frozen = refl

pair_forth : (x : ℕ) → x % 256 + 256 * (x / 256) ≡ x
pair_forth x = omega arith

hot_forth : (h : Hot) (l : List ℕ) → hot_stored (hot_bytes h ++ l) ≡ h
unfolding transfer_stored
hot_forth h l = go h.transfer
  where
    with_transfer_law : Transfer → Hot
    with_transfer_law t = record { regs = h.regs; signals = h.signals; transfer = t }

    marks : (t : Transfer) → record { regs = h.regs; signals = record { held = mark_stored (mark_byte h.signals.held); masked = mark_stored (mark_byte h.signals.masked); raised = mark_stored (mark_byte h.signals.raised); failed = mark_stored (mark_byte h.signals.failed) }; transfer = t } ≡ with_transfer_law t
    marks t = rw (mark_forth h.signals.held, mark_forth h.signals.masked, mark_forth h.signals.raised, mark_forth h.signals.failed)

    go : (t : Transfer) → hot_stored (hot_bytes (with_transfer_law t) ++ l) ≡ with_transfer_law t
    go Idle = marks Idle
    go (Reading r) = marks (Reading r)
    go (Writing r) = marks (Writing r)
    go (ReadingBuffer n) = marks (ReadingBuffer n)
    go (WritingBuffer n) = marks (WritingBuffer n)
    go (TakingPassword b) = for b.purpose
      where
        for : (p : Purpose) → hot_stored (hot_bytes (with_transfer_law (TakingPassword (block_of p b.word))) ++ l) ≡ with_transfer_law (TakingPassword (block_of p b.word))
        for Set = marks (TakingPassword (block_of Set b.word))
        for Unlock = marks (TakingPassword (block_of Unlock b.word))
        for Erase = marks (TakingPassword (block_of Erase b.word))
        for Disable = marks (TakingPassword (block_of Disable b.word))

-- a piece is found at its place
piece : (p l q : List ℕ) (i n : ℕ) → length p ≡ i → length q ≡ n → (t : List ℕ) → l ≡ p ++ (q ++ t) → take n (drop i l) ≡ q
piece p l q i n hp hq t e = ap (λ (z : List ℕ). take n (drop i z)) e ∙ ap (take n) (drop_at p (q ++ t) i hp) ∙ take_at q t n hq

-- the arrays behind the numbers
record Pieces (l s f m u p : List ℕ) : Type 0 where
  serial : take 20 (drop 0 l) ≡ s
  firmware : take 8 (drop 20 l) ≡ f
  model : take 40 (drop 28 l) ≡ m
  user : take 32 (drop 68 l) ≡ u
  master : take 32 (drop 100 l) ≡ p

pieces : (s f m u p : List ℕ) → length s ≡ 20 → length f ≡ 8 → length m ≡ 40 → length u ≡ 32 → length p ≡ 32
    → Pieces ((s ++ (f ++ m)) ++ (u ++ p)) s f m u p
pieces s f m u p ls lf lm lu lp =
    let l = (s ++ (f ++ m)) ++ (u ++ p) in
    let k2 : length (s ++ f) ≡ 28 = length-append s f ∙ omega (arith, ls, lf) in
    let k3 : length (s ++ f ++ m) ≡ 68 = length-append (s ++ f) m ∙ omega (arith, k2, lm) in
    let k4 : length (s ++ f ++ m ++ u) ≡ 100 = length-append (s ++ f ++ m) u ∙ omega (arith, k3, lu) in
    record {
      serial = piece [] l s 0 20 refl ls ((f ++ m) ++ (u ++ p)) (append_assoc s (f ++ m) (u ++ p));
      firmware = piece s l f 20 8 ls lf (m ++ (u ++ p)) (simp append_assoc);
      model = piece (s ++ f) l m 28 40 k2 lm (u ++ p) (simp append_assoc);
      user = piece (s ++ f ++ m) l u 68 32 k3 lu p (simp append_assoc);
      master = piece (s ++ f ++ m ++ u) l p 100 32 k4 lp [] (simp (append_assoc, append-nil));
    }

-- whatever the hot part's 18 bytes are
behind_hot : (s : Settled) (x : Secrets) → Arrays s x
    → (settled_stored (replicate 18 0 ++ rest_bytes s x) ≡ s) × (secrets_stored (replicate 18 0 ++ rest_bytes s x) ≡ x)
behind_hot s x k =
    let p = pieces s.identity.serial s.identity.firmware s.identity.model x.user x.master k.serial k.firmware k.model k.user k.master in (
      rw (pair_forth s.geometry.cylinders, pair_forth s.translation.cylinders, lock_forth s.security.lock, mark_forth s.security.enabled, mark_forth s.security.maximum, mark_forth s.security.prepared, p.serial, p.firmware, p.model),
      rw (p.user, p.master),
    )

rest_forth : (h : Hot) (s : Settled) (x : Secrets) → Arrays s x
    → (settled_stored (hot_bytes h ++ rest_bytes s x) ≡ s) × (secrets_stored (hot_bytes h ++ rest_bytes s x) ≡ x)
rest_forth h s x k = go h.transfer
  where
    bytes : Transfer → List ℕ
    bytes t = hot_bytes (record { regs = h.regs; signals = h.signals; transfer = t }) ++ rest_bytes s x

    go : (t : Transfer) → (settled_stored (bytes t) ≡ s) × (secrets_stored (bytes t) ≡ x)
    go Idle = behind_hot s x k
    go (Reading r) = behind_hot s x k
    go (Writing r) = behind_hot s x k
    go (ReadingBuffer n) = behind_hot s x k
    go (WritingBuffer n) = behind_hot s x k
    go (TakingPassword b) = behind_hot s x k

-- the device that is written is the device that is read
pub state_forth : (d : Device) → Arrays d.face.settled d.secrets → device_stored (state_of d) d.face.buffer ≡ d
state_forth d k =
    let r = rest_forth d.face.hot d.face.settled d.secrets k in
    rw (hot_forth d.face.hot (rest_bytes d.face.settled d.secrets), r.0, r.1)
