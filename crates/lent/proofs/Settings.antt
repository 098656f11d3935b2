-- Setup over lent bytes of the right lengths is the device's own.
use Prim.Native.Nat.{ℕ}
use mathlib.Core.Path.{◌≡◌, ap, ◌∙◌}
use mathlib.Core.List.{List}
use borrow.Author.Tests.{eq-eqb}
use lib.ListN.{length, take, drop}
use Rattle.settled.specs.declared.Identity.{Identity}
use Rattle.device.specs.Setup.{setup_of}
use Rattle.device.specs.declared.Outcome.{Outcome}
use Rattle.layout.specs.Stored.{identity_stored}
use Rattle.layout.specs.Bytes.{state_of}
use Rattle.lent.specs.Lent.{host_reply}
use Rattle.lent.specs.Setup.{lent_setup, Sets}
use Rattle.lent.specs.declared.Reply.{Reply}

pub setup_gives : (b x : List ℕ) (c h s : ℕ) (i p : List ℕ) (name : Identity) (word : List ℕ) (o : Outcome) (r : Reply) (b' x' : List ℕ)
    → length b ≡ 163 → length i ≡ 68 → length p ≡ 32 → name ≡ identity_stored i 0 → word ≡ take 32 (drop 0 p) → o ≡ setup_of c h s name word
    → r ≡ host_reply o.number 0 → b' ≡ state_of o.device → x' ≡ o.device.face.buffer
    → Sets (lent_setup b x c h s i p) r b' x'
unfolding lent_setup
setup_gives b x c h s i p name word o r b' x' lb li lp en ew eo er eb ex =
    let q : o ≡ setup_of c h s (identity_stored i 0) (take 32 (drop 0 p)) =
    eo ∙ ap (λ (z : Identity). setup_of c h s z word) en ∙ ap (λ (z : List ℕ). setup_of c h s (identity_stored i 0) z) ew in
    rw (eq-eqb _ _ lb, eq-eqb _ _ li, eq-eqb _ _ lp)
    (record {
      reply = er ∙ ap (λ (z : Outcome). host_reply z.number 0) q;
      state = eb ∙ ap (λ (z : Outcome). state_of z.device) q;
      buffer = ex ∙ ap (λ (z : Outcome). z.device.face.buffer) q;
    })
