-- Setup over lent bytes (document 01, "The disk and its three lives"; answer 6).
use Rattle.std.specs.Prelude.{ℕ, ◌≡◌, List, eqb, length, take, drop}
use Rattle.base.specs.Choice.{pick}
use Rattle.block.specs.Sectors.{zero_block, zeroed}
use Rattle.face.specs.Reads.{number_of}
use Rattle.face.specs.declared.Answer.TheVariants.{OutOfShape, SetupRefused}
use Rattle.device.specs.Setup.{setup_of}
use Rattle.device.specs.declared.Outcome.{Outcome}
use Rattle.layout.specs.Stored.{state_length, identity_stored}
use Rattle.layout.specs.Bytes.{state_of}
use Rattle.lent.specs.Lent.{host_reply}
use Rattle.lent.specs.declared.Reply.{Reply}

-- what setup gives, and leaves of state and buffer; it never takes sectors
pub record LentSetup : Type 0 where
  pub reply : Reply
  pub state : List ℕ
  pub buffer : List ℕ

-- "a device record all zero, itself out of shape"
abbrev pub zero_lent : List ℕ → LentSetup
zero_lent b = record { reply = host_reply (number_of SetupRefused) 0; state = zeroed b; buffer = zero_block }

-- what setup made of the counts, the identity and the master password, written down
abbrev pub setup_lent : Outcome → LentSetup
setup_lent o =
    record { reply = host_reply o.number 0; state = state_of o.device; buffer = o.device.face.buffer }

-- setup: "serial (20 bytes), firmware (8), model (40) .. and a 32-byte master password"; a state of wrong length is left
unfoldable pub lent_setup : List ℕ → List ℕ → ℕ → ℕ → ℕ → List ℕ → List ℕ → LentSetup
lent_setup b x c h s i p =
    pick (eqb (length b) state_length)
    (pick (eqb (length i) 68)
    (pick (eqb (length p) 32) (setup_lent (setup_of c h s (identity_stored i 0) (take 32 (drop 0 p)))) (zero_lent b))
    (zero_lent b))
    (record { reply = host_reply (number_of OutOfShape) 0; state = b; buffer = x })

-- the call gives this and leaves that
pub record Sets (l : LentSetup) (r : Reply) (b x : List ℕ) : Type 0 where
  pub reply : r ≡ l.reply
  pub state : b ≡ l.state
  pub buffer : x ≡ l.buffer
