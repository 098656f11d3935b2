-- What the loops over blocks come to, in terms of single words.
use Rattle.std.specs.Prelude.{ℕ, ◌*◌, ◌/◌, ◌≤◌, ◌≡◌, List, length, take, drop}
use Rattle.lock.specs.declared.Secrets.{Secrets}
use Rattle.settled.specs.declared.Settled.{Settled}
use Rattle.base.specs.Choice.{pick}
use Rattle.face.specs.Face.{face_with}
use Rattle.face.specs.declared.Hot.{Hot}
use Rattle.face.specs.declared.Answer.TheVariants.{NoTransfer}
use Rattle.device.specs.Alone.{shown, alone_of, device_of}
use Rattle.device.specs.declared.Device.{Device}
use Rattle.laws.specs.Sessions.{Rules}
use Rattle.words.specs.Blocks.{takes_here}
use Rattle.words.specs.Words.{read_words_of, write_words_of, words_in}
use Rattle.words.specs.declared.Passed.{Passed}

-- a device of these parts
abbrev pub device_with : Hot → Settled → List ℕ → Secrets → Device
device_with h s b x = device_of (face_with h s b) x

-- the words that single reads give, whatever the passwords are: r is where they lead, `after` the buffer, `out` the bytes lent for them
pub record Reads (h : Hot) (s : Settled) (b m out : List ℕ) (r : Passed) (after written : List ℕ) : Type 0 where
  pub handed : (x : Secrets) → read_words_of alone_of (length out / 2) (device_with h s b x) m
      ≡ record { words = words_in (take (2 * r.words) written); device = device_with r.hot s after x; sectors = m }
  pub below : 2 * r.words ≤ length out
  pub long : length written ≡ length out
  pub behind : drop (2 * r.words) written ≡ drop (2 * r.words) out

-- the device alone, which turns a password block's last word away: that one is not taken in here
unfoldable pub here_of : Rules
here_of d m a = pick (takes_here d.face.hot.transfer) (alone_of d m a) (shown d m NoTransfer 0)

-- the words that single writes take in here, whatever the passwords are: r is where they lead, `after` the buffer, m' the sectors
pub record Writes (h : Hot) (s : Settled) (b m bytes : List ℕ) (r : Passed) (after m' : List ℕ) : Type 0 where
  pub taken : (x : Secrets) → write_words_of here_of (words_in bytes) (device_with h s b x) m
      ≡ record { count = r.words; device = device_with r.hot s after x; sectors = m' }
  pub long : length m' ≡ length m
