-- A call over lent bytes is the device's own: how it is let in, what a refusal and new parts leave.
use Prim.Native.Nat.{ℕ, ◌+◌, ◌≤◌, ◌<◌}
use mathlib.Core.Bool.{Bool, true, false}
use mathlib.Core.Path.{◌≡◌, refl, sym, ap, ◌∙◌}
use mathlib.Core.List.{List, [], ◌++◌, append_assoc}
use native.Mathlib.Omega.{arith}
use borrow.Author.Tests.{eqb-true, ne_eqb}
use lib.Dec.{eqb}
use lib.ListN.{length, get_or, drop}
use lib.Seq.{sets, sets-eq}
use Rattle.base.proofs.Tests.{either_way, false≢true}
use Rattle.settled.specs.declared.Settled.{Settled}
use Rattle.face.specs.Reads.{number_of, value_of}
use Rattle.face.specs.declared.Hot.{Hot}
use Rattle.face.specs.declared.Action.{Action}
use Rattle.face.specs.declared.Answer.{Answer}
use Rattle.face.specs.declared.Answer.TheVariants.{Done, NoRegister, OutOfShape, WrongLength, NoTransfer, SetupRefused}
use Rattle.transfers.specs.Sectors.{Memory}
use Rattle.device.proofs.Memories.{shaped_memory}
use Rattle.device.specs.Alone.{shown, alone_of}
use Rattle.device.specs.Host.{parts_shaped, shaped_of, memory_length, step_of}
use Rattle.laws.proofs.Steps.{ready_step}
use Rattle.layout.specs.Stored.{hot_stored, settled_stored, secrets_stored, device_stored, formed_of}
use Rattle.layout.specs.Bytes.{hot_bytes, front_bytes, rest_bytes}
use Rattle.layout.proofs.Puts.{hot_bytes_long, front_over}
use Rattle.layout.proofs.Back.{formed_clauses, secrets_back, rest_back, state_back}
use Rattle.lent.specs.Lent.{host_reply, left_alone, lent_of, lent_step, GivesBack, Admitted, admission_of}
use Rattle.lent.specs.declared.Reply.{Reply}

pub formed_long : (b : List ℕ) → formed_of b ≡ true → length b ≡ 163
formed_long b e = (formed_clauses b e).long

-- bytes 18 and 22, which numbers of two bytes start with, are bytes
pub record LowBytes (b : List ℕ) : Type 0 where
  pub geometry : get_or b 18 0 < 256
  pub translation : get_or b 22 0 < 256

pub low_bytes : (b : List ℕ) → ((i : ℕ) → get_or b i 0 < 256) → LowBytes b
low_bytes b fits = record { geometry = fits 18; translation = fits 22 }

-- ---- how a call is let in

-- an answer that turns a call away
abbrev pub is_refusal : Answer → Bool
is_refusal Done = false
is_refusal NoRegister = true
is_refusal OutOfShape = true
is_refusal WrongLength = true
is_refusal NoTransfer = true
is_refusal SetupRefused = true

pub number_done : (a : Answer) → number_of a ≡ 0 → a ≡ Done
number_done Done e = refl
number_done NoRegister e = absurd (omega arith)
number_done OutOfShape e = absurd (omega arith)
number_done WrongLength e = absurd (omega arith)
number_done NoTransfer e = absurd (omega arith)
number_done SetupRefused e = absurd (omega arith)

pub other_refuses : (a : Answer) → (a ≡ Done → ⊥) → is_refusal a ≡ true
other_refuses Done e = absurd (e refl)
other_refuses NoRegister e = refl
other_refuses OutOfShape e = refl
other_refuses WrongLength e = refl
other_refuses NoTransfer e = refl
other_refuses SetupRefused e = refl

-- the shape test, over the parts as they were read
parts_same : (b : List ℕ) (s : Settled) (h : Hot) (v : Bool) → s ≡ settled_stored b → h ≡ hot_stored b → parts_shaped s h ≡ v
    → parts_shaped (settled_stored b) (hot_stored b) ≡ v
parts_same b s h v es eh e = sym (ap (λ (z : Settled). parts_shaped z h) es ∙ ap (λ (z : Hot). parts_shaped (settled_stored b) z) eh) ∙ e

pub admission_shape : (b m : List ℕ) (s : Settled) (h : Hot) → formed_of b ≡ true → s ≡ settled_stored b → h ≡ hot_stored b
    → parts_shaped s h ≡ false → OutOfShape ≡ admission_of b m
unfolding admission_of
admission_shape b m s h f es eh e = let p = parts_same b s h false es eh e in rw (f, p)

-- bytes of another number are no device's
pub other_length : (b m : List ℕ) → (length b ≡ 163 → ⊥) → OutOfShape ≡ admission_of b m
unfolding admission_of formed_of
other_length b m k = rw (ne_eqb _ _ k)

pub admitted : (b x m : List ℕ) → admission_of b m ≡ Done → Admitted b x m
unfolding admission_of shaped_of
admitted b x m e =
    either_way (formed_of b)
    (λ f. either_way (parts_shaped (settled_stored b) (hot_stored b))
    (λ s. either_way (eqb (length m) (memory_length (device_stored b x)))
    (λ l. record { formed = f; ready = record { shaped = s; long = eqb-true _ _ l } })
    (λ l. absurd (false≢true (sym (ap is_refusal (rw (f, s, l) at e))))))
    (λ s. absurd (false≢true (sym (ap is_refusal (rw (f, s) at e))))))
    (λ f. absurd (false≢true (sym (ap is_refusal (rw f at e)))))

-- the same, of the answer's number
pub zero_admits : (b x m : List ℕ) (a : Answer) (n : ℕ) → a ≡ admission_of b m → n ≡ number_of a → n ≡ 0 → Admitted b x m
zero_admits b x m a n ea en z = admitted b x m (sym ea ∙ number_done a (sym en ∙ z))

-- and there are as many of them as a state has
pub admitted_long : (b m : List ℕ) → Done ≡ admission_of b m → length b ≡ 163
admitted_long b m e = formed_long b (admitted b [] m (sym e)).formed

-- over the memory that is lent, the sectors that addresses name are there
pub lent_memory : (b x m : List ℕ) (s : Settled) → Admitted b x m → s ≡ settled_stored b → Memory s.geometry s.translation m
lent_memory b x m s k e = rw e (shaped_memory (device_stored b x) m k.ready.shaped k.ready.long)

-- let in, the call is the device's action
pub lent_ready : (b x m : List ℕ) (a : Action) → Admitted b x m → lent_step b x m a ≡ lent_of (alone_of (device_stored b x) m a)
unfolding lent_step
lent_ready b x m a k = rw k.formed (ap lent_of (ready_step (device_stored b x) m a k.ready))

pub ready_gives : (b x m : List ℕ) (a : Action) (r : Reply) (b' x' m' : List ℕ) → Done ≡ admission_of b m
    → GivesBack (lent_of (alone_of (device_stored b x) m a)) r b' x' m' → GivesBack (lent_step b x m a) r b' x' m'
ready_gives b x m a r b' x' m' e k = rw (lent_ready b x m a (admitted b x m (sym e))) k

-- turned away, it leaves everything
turned_away_law : (b x m : List ℕ) (a : Action) → LowBytes b → is_refusal (admission_of b m) ≡ true → lent_step b x m a ≡ left_alone b x m (admission_of b m)
unfolding lent_step admission_of step_of shaped_of
turned_away_law b x m a k e =
    either_way (formed_of b)
    (λ f. either_way (parts_shaped (settled_stored b) (hot_stored b))
    (λ s. either_way (eqb (length m) (memory_length (device_stored b x)))
    (λ l. absurd (false≢true (rw (f, s, l) at e)))
    (λ l. rw (f, s, l) (back f WrongLength)))
    (λ s. rw (f, s) (back f OutOfShape)))
    (λ f. rw f)
  where
    back : formed_of b ≡ true → (w : Answer)
        → lent_of (shown (device_stored b x) m w 0) ≡ record { reply = host_reply (number_of w) (value_of w 0); state = b; buffer = x; sectors = m }
    back f w =
        ap (λ (s : List ℕ). record { reply = host_reply (number_of w) (value_of w 0); state = s; buffer = x; sectors = m })
        (state_back b x (formed_clauses b f) k.geometry k.translation)

pub away_gives : (b x m : List ℕ) (a : Action) (w : Answer) (r : Reply) → LowBytes b → w ≡ admission_of b m → is_refusal w ≡ true
    → r ≡ host_reply (number_of w) 0 → GivesBack (lent_step b x m a) r b x m
away_gives b x m a w r k e f g =
    rw (turned_away_law b x m a k (sym (ap is_refusal e) ∙ f))
    (record { reply = g ∙ ap (λ (v : Answer). host_reply (number_of v) 0) e; state = refl; buffer = refl; sectors = refl })

-- ---- what new parts leave

-- the hot part's bytes put over a state that is formed
pub hot_put : (b : List ℕ) (h : Hot) → formed_of b ≡ true → LowBytes b → sets b 0 (hot_bytes h) ≡ hot_bytes h ++ rest_bytes (settled_stored b) (secrets_stored b)
hot_put b h f k =
    let l : length (hot_bytes h) ≡ 18 = hot_bytes_long h in
    let w : 0 + length (hot_bytes h) ≤ length b = omega (arith, l, formed_long b f) in
    let e : 0 + length (hot_bytes h) ≡ 18 = omega (arith, l) in
    sets-eq (hot_bytes h) b 0 w
    ∙ ap (λ (n : ℕ). hot_bytes h ++ drop n b) e
    ∙ ap (λ (s : List ℕ). hot_bytes h ++ s) (sym (rest_back b (formed_clauses b f) k.geometry k.translation))

-- the bytes of hot and settled part put over it
pub front_put : (b : List ℕ) (h : Hot) (s : Settled) → formed_of b ≡ true → length (front_bytes h s) ≡ 99
    → sets b 0 (front_bytes h s) ≡ hot_bytes h ++ rest_bytes s (secrets_stored b)
front_put b h s f l =
    front_over b (front_bytes h s) (formed_long b f) l
    ∙ ap (λ (x : List ℕ). front_bytes h s ++ x) (sym (secrets_back b (formed_clauses b f)))
    ∙ simp append_assoc
