-- Data words in bulk: as many single word actions, one after the other, up to the first that is turned away.
use Rattle.std.specs.Prelude.{ℕ, zero, suc, ◌+◌, ◌*◌, List, [], ◌∷◌, eqb}
use Rattle.base.specs.Choice.{pick}
use Rattle.face.specs.declared.Action.TheVariants.{ReadWord, WriteWord}
use Rattle.device.specs.Alone.{Step}
use Rattle.device.specs.declared.Device.{Device}
use Rattle.laws.specs.Sessions.{Rules}

-- the words that passed, and the device and every sector after them
pub record Handed : Type 0 where
  pub words : List ℕ
  pub device : Device
  pub sectors : List ℕ

-- no word
abbrev pub hands_none : Device → List ℕ → Handed
hands_none d m = record { words = []; device = d; sectors = m }

-- a word, and those behind it
abbrev pub hands_first : Step → Handed → Handed
hands_first s h = record { words = s.outcome.value ∷ h.words; device = h.device; sectors = h.sectors }

-- n words are read, up to the first that is turned away
unfoldable pub read_words_of : Rules → ℕ → Device → List ℕ → Handed
read_words_of r zero d m = hands_none d m
read_words_of r (suc n) d m =
    pick (eqb (r d m ReadWord).outcome.number 0)
    (hands_first (r d m ReadWord) (read_words_of r n (r d m ReadWord).outcome.device (r d m ReadWord).sectors))
    (hands_none d m)

-- how many words passed, and the device and every sector after them
pub record Taken : Type 0 where
  pub count : ℕ
  pub device : Device
  pub sectors : List ℕ

-- no word
abbrev pub takes_none : Device → List ℕ → Taken
takes_none d m = record { count = 0; device = d; sectors = m }

-- k words more had passed before
abbrev pub taken_behind : ℕ → Taken → Taken
taken_behind k t = record { count = k + t.count; device = t.device; sectors = t.sectors }

-- these words are written, up to the first that is turned away
unfoldable pub write_words_of : Rules → List ℕ → Device → List ℕ → Taken
write_words_of r [] d m = takes_none d m
write_words_of r (w ∷ l) d m =
    pick (eqb (r d m (WriteWord w)).outcome.number 0)
    (taken_behind 1 (write_words_of r l (r d m (WriteWord w)).outcome.device (r d m (WriteWord w)).sectors))
    (takes_none d m)

-- bytes as words, low byte first; a last byte alone is none
unfoldable pub words_in : List ℕ → List ℕ
words_in [] = []
words_in (x ∷ []) = []
words_in (x ∷ y ∷ l) = (x + 256 * y) ∷ words_in l
