-- The stations before a command leave geometry and translation, so the lent memory stays this disk's.
use mathlib.Core.Path.{◌≡◌, ap}
use mathlib.Core.List.{List}
use Prim.Native.Nat.{ℕ}
use Rattle.lock.specs.declared.Purpose.{Purpose}
use Rattle.lock.specs.declared.Purpose.TheVariants.{Set, Unlock, Erase, Disable}
use Rattle.face.specs.Face.{idle_face, with_hot}
use Rattle.face.specs.Ends.{cleared_of}
use Rattle.resets.specs.Resets.{drop_purpose, drop_as, dropped_of}
use Rattle.face.specs.declared.Transfer.{Transfer}
use Rattle.face.specs.declared.Transfer.TheVariants.{Idle, Reading, Writing, ReadingBuffer, WritingBuffer, TakingPassword}
use Rattle.face.specs.declared.Face.{Face}
use Rattle.transfers.specs.Sectors.{Memory}
use Rattle.commands.specs.Gate.{begun_of}

-- the lent memory is this face's disk's
abbrev pub Fitting : Face → List ℕ → Type 0
Fitting f m = Memory f.settled.geometry f.settled.translation m

drop_purpose_memory : (f : Face) (p : Purpose) {m : List ℕ} → Fitting f m → Fitting (drop_purpose f p) m
drop_purpose_memory f Set k = k
drop_purpose_memory f Unlock k = k
drop_purpose_memory f Erase k = k
drop_purpose_memory f Disable k = k

drop_memory : (f : Face) (t : Transfer) {m : List ℕ} → Fitting f m → Fitting (drop_as f t) m
drop_memory f Idle k = k
drop_memory f (Reading r) k = k
drop_memory f (Writing r) k = k
drop_memory f (ReadingBuffer n) k = k
drop_memory f (WritingBuffer n) k = k
drop_memory f (TakingPassword b) k = drop_purpose_memory _ b.purpose k

begun_memory : (f : Face) {m : List ℕ} → Fitting f m → Fitting (begun_of f) m
unfolding begun_of dropped_of
begun_memory f k = drop_memory (idle_face f) f.hot.transfer k

-- ---- the same of a face in parts

pub begun_fits : (f g : Face) {m : List ℕ} → g ≡ begun_of f → Fitting f m → Fitting g m
begun_fits f g e k = rw e (begun_memory f k)

pub begun_dropped : (f g : Face) → g ≡ dropped_of f → with_hot g (cleared_of g.hot) ≡ begun_of f
unfolding begun_of
begun_dropped f g e = ap (λ (h : Face). with_hot h (cleared_of h.hot)) e
