-- Data words in bulk over lent bytes: as many single words of the device that the bytes hold, written back.
use Rattle.std.specs.Prelude.{ℕ, ◌*◌, ◌≡◌, Bool, List, [], eqb, length, take, drop}
use Rattle.base.specs.Choice.{pick}
use Rattle.settled.specs.declared.Settled.{Settled}
use Rattle.face.specs.Reads.{number_of}
use Rattle.face.specs.declared.Hot.{Hot}
use Rattle.face.specs.declared.Action.TheVariants.{WriteWord}
use Rattle.face.specs.declared.Answer.{Answer}
use Rattle.face.specs.declared.Answer.TheVariants.{Done, NoRegister, OutOfShape, WrongLength, NoTransfer, SetupRefused}
use Rattle.device.specs.Alone.{Step, alone_of}
use Rattle.device.specs.Host.{step_of}
use Rattle.device.specs.declared.Device.{Device}
use Rattle.layout.specs.Stored.{secrets_stored, device_stored}
use Rattle.layout.specs.Bytes.{state_of}
use Rattle.lent.specs.Lent.{host_reply, Lent, left_alone, GivesBack, admission_of}
use Rattle.lent.specs.declared.Reply.{Reply}
use Rattle.words.specs.Words.{read_words_of, write_words_of, words_in}
use Rattle.words.specs.Bulk.{device_with}

-- k words of n that were wanted: how many passed; "data word with no transfer that way" where none did
unfoldable pub counted_reply : ℕ → ℕ → Reply
counted_reply k n = pick (eqb k 0) (pick (eqb n 0) (host_reply 0 0) (host_reply (number_of NoTransfer) 0)) (host_reply 0 k)

-- the device that they lead to, written back
abbrev pub counted_lent : ℕ → ℕ → Device → List ℕ → Lent
counted_lent k n d m = record { reply = counted_reply k n; state = state_of d; buffer = d.face.buffer; sectors = m }

-- a call that is let in, or why it is turned away
abbrev pub let_in : List ℕ → List ℕ → List ℕ → Lent → Answer → Lent
let_in b x m l Done = l
let_in b x m l NoRegister = left_alone b x m NoRegister
let_in b x m l OutOfShape = left_alone b x m OutOfShape
let_in b x m l WrongLength = left_alone b x m WrongLength
let_in b x m l NoTransfer = left_alone b x m NoTransfer
let_in b x m l SetupRefused = left_alone b x m SetupRefused

-- the words of a call that is let in
abbrev pub words_let_in : List ℕ → Answer → List ℕ
words_let_in ws Done = ws
words_let_in ws NoRegister = []
words_let_in ws OutOfShape = []
words_let_in ws WrongLength = []
words_let_in ws NoTransfer = []
words_let_in ws SetupRefused = []

-- ---- words are read

-- the words that n single reads give, up to the first that is turned away
abbrev pub words_admitted : List ℕ → List ℕ → List ℕ → ℕ → List ℕ
words_admitted b x m n = (read_words_of step_of n (device_stored b x) m).words

-- and what they leave
abbrev pub reads_admitted : List ℕ → List ℕ → List ℕ → ℕ → Lent
reads_admitted b x m n =
    counted_lent (length (words_admitted b x m n)) n (read_words_of step_of n (device_stored b x) m).device (read_words_of step_of n (device_stored b x) m).sectors

-- n words are wanted, of any lent bytes over any memory
abbrev pub read_lent : List ℕ → List ℕ → List ℕ → ℕ → Lent
read_lent b x m n = let_in b x m (reads_admitted b x m n) (admission_of b m)

-- the words that pass
abbrev pub words_lent : List ℕ → List ℕ → List ℕ → ℕ → List ℕ
words_lent b x m n = words_let_in (words_admitted b x m n) (admission_of b m)

-- the call gives this, and these words into the first bytes of `out`, low byte first; the bytes behind them stay
pub record ReadsLent (l : Lent) (ws out : List ℕ) (r : Reply) (b x m out' : List ℕ) : Type 0 where
  pub gives : GivesBack l r b x m
  pub words : words_in (take (2 * length ws) out') ≡ ws
  pub long : length out' ≡ length out
  pub behind : drop (2 * length ws) out' ≡ drop (2 * length ws) out

-- ---- words are written

-- what single writes of these words leave, up to the first that is turned away; of a device in shape over its memory the host's rules are `alone_of`
abbrev pub writes_admitted : List ℕ → List ℕ → List ℕ → List ℕ → Lent
writes_admitted b x m ws =
    counted_lent (write_words_of alone_of ws (device_stored b x) m).count (length ws) (write_words_of alone_of ws (device_stored b x) m).device (write_words_of alone_of ws (device_stored b x) m).sectors

-- these words are sent, to any lent bytes over any memory
abbrev pub write_lent : List ℕ → List ℕ → List ℕ → List ℕ → Lent
write_lent b x m ws = let_in b x m (writes_admitted b x m ws) (admission_of b m)

-- one word of the device whose hot part is held apart
abbrev pub last_step : List ℕ → List ℕ → Hot → Settled → ℕ → List ℕ → Step
last_step b x h s w m = alone_of (device_with h s x (secrets_stored b)) m (WriteWord w)

-- whether it is taken, and what it then leaves; turned away, it leaves everything
pub record LastWord (b x : List ℕ) (h : Hot) (s : Settled) (w : ℕ) (m : List ℕ) (r : Bool) (b' x' m' : List ℕ) : Type 0 where
  pub taken : r ≡ eqb (last_step b x h s w m).outcome.number 0
  pub state : b' ≡ pick r (state_of (last_step b x h s w m).outcome.device) b
  pub buffer : x' ≡ pick r (last_step b x h s w m).outcome.device.face.buffer x
  pub sectors : m' ≡ pick r (last_step b x h s w m).sectors m
