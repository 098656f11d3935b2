-- What the fast path settles over lent bytes is the device's own action: the hot part goes back, the buffer stands where it is.
use Prim.Native.Nat.{ℕ}
use mathlib.Core.Path.{◌≡◌, refl, sym, ◌∙◌}
use mathlib.Core.List.{List}
use lib.Seq.{sets}
use Rattle.std.specs.Prelude.{Option, Some, None}
use Rattle.face.specs.Reads.{number_of, value_of}
use Rattle.face.specs.declared.Hot.{Hot}
use Rattle.face.specs.declared.Shows.{Shows}
use Rattle.face.specs.declared.Action.{Action}
use Rattle.fastpath.specs.Dev.{quick_alone, quick_alone_buffer}
use Rattle.fastpath.proofs.Slow.{quick_slow}
use Rattle.device.specs.Alone.{alone_of}
use Rattle.device.proofs.FastStep.{quick_settles}
use Rattle.layout.specs.Stored.{hot_stored, device_stored}
use Rattle.layout.specs.Bytes.{hot_bytes}
use Rattle.lent.specs.Lent.{host_reply, lent_of, GivesBack, Admitted}
use Rattle.lent.specs.declared.Reply.{Reply}
use Rattle.lent.proofs.Lending.{LowBytes, hot_put}

pub settle_gives : (b x m : List ℕ) (a : Action) (s : Shows Hot) (h : Hot) (r : Reply) (b' x' : List ℕ) → Admitted b x m → LowBytes b
    → h ≡ hot_stored b → quick_alone h x a ≡ Some s → x' ≡ quick_alone_buffer h x a
    → r ≡ host_reply (number_of s.answer) (value_of s.answer s.value) → b' ≡ sets b 0 (hot_bytes s.left)
    → GivesBack (lent_of (alone_of (device_stored b x) m a)) r b' x' m
settle_gives b x m a s h r b' x' k low eh q ex er eb =
    let q' : quick_alone (hot_stored b) x a ≡ Some s = rw eh at q in
    let x'' : x' ≡ quick_alone_buffer (hot_stored b) x a = rw eh at ex in
    rw (quick_settles (device_stored b x) m a x' s q' x'')
    (record { reply = er; state = eb ∙ hot_put b s.left k.formed low; buffer = refl; sectors = refl })

-- what it leaves open has left the buffer
pub slow_keeps : (h : Hot) (x x' : List ℕ) (a : Action) (q : Option (Shows Hot)) → q ≡ quick_alone h x a → x' ≡ quick_alone_buffer h x a → q ≡ None → x' ≡ x
slow_keeps h x x' a q eq ex es = ex ∙ quick_slow h x a (sym eq ∙ es)
