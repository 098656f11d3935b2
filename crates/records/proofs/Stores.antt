-- A piece written over a part of the bytes is written into them; and a piece behind what is written already leaves the rest.
use Prim.Native.Nat.{ℕ, ◌+◌, ◌≤◌}
use mathlib.Core.Path.{◌≡◌, refl, sym, ap, ◌∙◌}
use mathlib.Core.List.{List, ◌++◌, append_assoc}
use native.Mathlib.Omega.{arith}
use lib.ListN.{length, take, drop, length-drop, length-append}
use Rattle.std.proofs.lemmas.List.Edits.{paste_all}
use Rattle.std.proofs.lemmas.Slice.{put_mid-paste}
use borrow.Rule.Slice.PartMut.{put_mid}
use lib.Seq.{sets, sets-eq, take_at, drop-append-add, drop-drop}

pub written : (out ys zs : List ℕ) (put k : ℕ) → ys ≡ zs → k ≡ length zs → put + length zs ≤ length out → put_mid put k out ys ≡ sets out put zs
written out ys zs put k e n room =
    put_mid-paste put k out ys zs (length zs) e (sym n) refl
    ∙ paste_all out put zs (length zs) refl
    ∙ sym (append_assoc (take put out) zs (drop (put + length zs) out))
    ∙ sym (sets-eq zs out put room)

-- `piece` written behind `wrote`, over what stood there
pub write_behind : (wrote out out₀ piece : List ℕ) (put : ℕ) → out ≡ wrote ++ drop put out₀ → length wrote ≡ put → put + length piece ≤ length out₀
    → sets out put piece ≡ (wrote ++ piece) ++ drop (put + length piece) out₀
write_behind wrote out out₀ piece put e l h =
    let g : length out ≡ length out₀ = ap length e ∙ length-append wrote (drop put out₀) ∙ simp length-drop (omega arith) in
    let t : take put out ≡ wrote = ap (take put) e ∙ take_at wrote (drop put out₀) put l in
    let u : drop (put + length piece) out ≡ drop (put + length piece) out₀ =
    ap (drop (put + length piece)) e ∙ ap (λ (k : ℕ). drop (k + length piece) (wrote ++ drop put out₀)) (sym l)
    ∙ drop-append-add wrote (drop put out₀) (length piece) ∙ drop-drop (length piece) put out₀ in
    sets-eq piece out put (omega arith) ∙ ap (λ (x : List ℕ). (x ++ piece) ++ drop (put + length piece) out) t
    ∙ ap (λ (x : List ℕ). (wrote ++ piece) ++ x) u
