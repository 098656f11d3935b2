-- A single word is a bulk of one: it passes and gives its value, or is turned away and changes nothing.
use Prim.Native.Nat.{ℕ, ◌+◌, ◌*◌, ◌/◌, ◌%◌, ◌<◌}
use mathlib.Core.Path.{◌≡◌, refl, sym, ap, subst, ◌∙◌}
use mathlib.Core.Logic.{⊎_elim}
use mathlib.Core.List.{List, [], ◌∷◌}
use native.Mathlib.Omega.{arith}
use borrow.Author.Tests.{eqb-true, eqb-false}
use lib.Dec.{eqb, ltb}
use lib.ListN.{length, get_or, take}
use Rattle.base.specs.Choice.{pick}
use Rattle.base.proofs.Tests.{either_way}
use Rattle.lock.specs.declared.Secrets.{Secrets}
use Rattle.face.specs.Reads.{number_of}
use Rattle.face.specs.declared.Face.{Face}
use Rattle.face.specs.declared.Transfer.{Transfer}
use Rattle.face.specs.declared.Transfer.TheVariants.{Idle, Reading, Writing, ReadingBuffer, WritingBuffer, TakingPassword}
use Rattle.face.specs.declared.Answer.TheVariants.{NoTransfer}
use Rattle.face.specs.declared.Action.TheVariants.{ReadWord, WriteWord}
use Rattle.fastpath.specs.Dev.{ignored_of}
use Rattle.effects.specs.Effects.{effect}
use Rattle.face.specs.declared.Shows.{Shows}
use Rattle.reading.specs.Words.{read_word_of}
use Rattle.password.specs.Passwords.{password_last, password_word}
use Rattle.disk.specs.Actions.{told_acted, write_word_as, write_word_of, act_of}
use Rattle.device.specs.Alone.{Step, shown, step_as, alone_of}
use Rattle.device.specs.declared.Device.{Device}
use Rattle.laws.proofs.Steps.{ready_step}
use Rattle.laws.proofs.Refusals.{read_word_answer, write_word_answer}
use Rattle.layout.specs.Stored.{device_stored}
use Rattle.lent.specs.Lent.{host_reply, lent_of, GivesBack, Admitted}
use Rattle.lent.specs.declared.Reply.{Reply}
use Rattle.words.specs.Words.{Handed, hands_none, hands_first, read_words_of, Taken, write_words_of, words_in}
use Rattle.words.proofs.Callers.{takes_one}
use Rattle.bulk.specs.Bulk.{counted_reply, counted_lent, reads_admitted, words_admitted, ReadsLent, writes_admitted}

-- ---- a word that is turned away

read_refused : (d : Device) (m : List ℕ) → ((alone_of d m ReadWord).outcome.number ≡ 0 → ⊥) → alone_of d m ReadWord ≡ shown d m NoTransfer 0
unfolding alone_of ignored_of act_of read_word_of
read_refused d m h =
    ⊎_elim (λ e. absurd (h (ap number_of e))) (λ e. ap (λ (t : Shows Face). step_as (effect (told_acted d.secrets t) m)) e)
    (read_word_answer d.face m d.face.hot.transfer)

write_refused : (d : Device) (m : List ℕ) (w : ℕ) → ((alone_of d m (WriteWord w)).outcome.number ≡ 0 → ⊥) → alone_of d m (WriteWord w) ≡ shown d m NoTransfer 0
unfolding alone_of ignored_of act_of write_word_of
write_refused d m w h = ⊎_elim (λ e. absurd (h (ap number_of e))) (λ e. ap step_as e) (write_word_answer d.face d.secrets m w d.face.hot.transfer)

-- a word that is written has no value
no_value : (f : Face) (x : Secrets) (m : List ℕ) (w : ℕ) (t : Transfer) → (step_as (write_word_as f x m w t)).outcome.value ≡ 0
unfolding password_word password_last
no_value f x m w Idle = refl
no_value f x m w (Reading r) = refl
no_value f x m w (Writing r) = refl
no_value f x m w (ReadingBuffer n) = refl
no_value f x m w (WritingBuffer n) = refl
no_value f x m w (TakingPassword b) = either_way (ltb b.word 255) (λ e. rw e) (λ e. rw e)

write_value : (d : Device) (m : List ℕ) (w : ℕ) → (alone_of d m (WriteWord w)).outcome.value ≡ 0
unfolding alone_of ignored_of act_of write_word_of
write_value d m w = no_value d.face d.secrets m w d.face.hot.transfer

-- ---- a word read

-- one word of a bulk read
abbrev hands_one : Device → List ℕ → Step → Handed
hands_one d m s = pick (eqb s.outcome.number 0) (hands_first s (hands_none s.outcome.device s.sectors)) (hands_none d m)

-- what the bulk of one word gave, by where that word leads
abbrev ReadOne : (m out : List ℕ) (r : Reply) (b' x' out' : List ℕ) → Handed → Type 0
ReadOne m out r b' x' out' h = ReadsLent (counted_lent (length h.words) 1 h.device h.sectors) h.words out r b' x' m out'

read_one : (b x m out : List ℕ) (r : Reply) (b' x' out' : List ℕ) → Admitted b x m → length out ≡ 2
    → ReadsLent (reads_admitted b x m (length out / 2)) (words_admitted b x m (length out / 2)) out r b' x' m out'
    → ReadOne m out r b' x' out' (hands_one (device_stored b x) m (alone_of (device_stored b x) m ReadWord))
unfolding read_words_of
read_one b x m out r b' x' out' a two k =
    let one : length out / 2 ≡ 1 = omega (arith, two) in
    subst (λ (s : Step). ReadOne m out r b' x' out' (hands_one (device_stored b x) m s)) (ready_step (device_stored b x) m ReadWord a.ready)
    (subst (λ (n : ℕ). ReadsLent (reads_admitted b x m n) (words_admitted b x m n) out r b' x' m out') one k)

first_word : (l : List ℕ) → length l ≡ 2 → words_in (take 2 l) ≡ (get_or l 0 0 + 256 * get_or l 1 0) ∷ []
unfolding words_in
first_word [] e = absurd (omega (arith, e))
first_word (y ∷ []) e = absurd (omega (arith, e))
first_word (y ∷ z ∷ []) e = refl
first_word (y ∷ z ∷ v ∷ l) e = absurd (omega (arith, e))

-- it passes
pub read_done : (b x m out : List ℕ) (v : ℕ) (r r' : Reply) (b' x' out' : List ℕ) → Admitted b x m → length out ≡ 2
    → ReadsLent (reads_admitted b x m (length out / 2)) (words_admitted b x m (length out / 2)) out r b' x' m out'
    → r.answer ≡ 0 → v ≡ get_or out' 0 0 + 256 * get_or out' 1 0 → r' ≡ host_reply 0 v → GivesBack (lent_of (alone_of (device_stored b x) m ReadWord)) r' b' x' m
unfolding counted_reply
read_done b x m out v r r' b' x' out' a two k zero ev er =
    let s : Step = alone_of (device_stored b x) m ReadWord in
    let one = read_one b x m out r b' x' out' a two k in
    either_way (eqb s.outcome.number 0)
    (λ e.
    let o = rw e at one in
    let number : s.outcome.number ≡ 0 = eqb-true _ _ e in
    let value : v ≡ s.outcome.value = ev ∙ ap (λ (l : List ℕ). get_or l 0 0) (sym (first_word out' (o.long ∙ two)) ∙ o.words) in
    record { reply = er ∙ (λ i. host_reply (sym number i) (value i)); state = o.gives.state; buffer = o.gives.buffer; sectors = o.gives.sectors })
    (λ e. let o = rw e at one in absurd (let q = sym zero ∙ ap (λ (z : Reply). z.answer) o.gives.reply in omega (arith, q)))

-- it is turned away
pub read_none : (b x m out : List ℕ) (r : Reply) (b' x' out' : List ℕ) → Admitted b x m → length out ≡ 2
    → ReadsLent (reads_admitted b x m (length out / 2)) (words_admitted b x m (length out / 2)) out r b' x' m out'
    → (r.answer ≡ 0 → ⊥) → GivesBack (lent_of (alone_of (device_stored b x) m ReadWord)) r b' x' m
unfolding counted_reply
read_none b x m out r b' x' out' a two k not =
    let one = read_one b x m out r b' x' out' a two k in
    either_way (eqb (alone_of (device_stored b x) m ReadWord).outcome.number 0)
    (λ e. let o = rw e at one in absurd (not (ap (λ (z : Reply). z.answer) o.gives.reply)))
    (λ e.
    let o = rw e at one in
    rw (read_refused (device_stored b x) m (eqb-false _ _ e)) (record { reply = o.gives.reply; state = o.gives.state; buffer = o.gives.buffer; sectors = o.gives.sectors }))

-- ---- a word written

-- what the bulk of one word gave, by where that word leads
abbrev WriteOne : Reply → List ℕ → List ℕ → List ℕ → Taken → Type 0
WriteOne r b' x' m' t = GivesBack (counted_lent t.count 1 t.device t.sectors) r b' x' m'

write_one : (b x m bytes : List ℕ) (w : ℕ) (r : Reply) (b' x' m' : List ℕ) → words_in bytes ≡ w ∷ [] → GivesBack (writes_admitted b x m (words_in bytes)) r b' x' m'
    → WriteOne r b' x' m' (takes_one (device_stored b x) m (alone_of (device_stored b x) m (WriteWord w)))
unfolding write_words_of
write_one b x m bytes w r b' x' m' e k = subst (λ (ws : List ℕ). GivesBack (writes_admitted b x m ws) r b' x' m') e k

-- its bytes
pub word_bytes : (w : ℕ) → words_in ((w % 256) ∷ (w / 256) ∷ []) ≡ w ∷ []
unfolding words_in
word_bytes w = let e : w % 256 + 256 * (w / 256) ≡ w = omega arith in ap (λ (n : ℕ). n ∷ []) e

-- the same, as the code makes them
pub word_le_bytes : (w : ℕ) (bytes : List ℕ) → w < 65536 → bytes ≡ (w % 256) ∷ (w / 256 % 256) ∷ [] → words_in bytes ≡ w ∷ []
word_le_bytes w bytes h e = let k : w / 256 % 256 ≡ w / 256 = omega arith in rw (e, k) (word_bytes w)

-- it passes
pub write_done : (b x m bytes : List ℕ) (w : ℕ) (r r' : Reply) (b' x' m' : List ℕ) → words_in bytes ≡ w ∷ [] → GivesBack (writes_admitted b x m (words_in bytes)) r b' x' m'
    → r.answer ≡ 0 → r' ≡ host_reply 0 0 → GivesBack (lent_of (alone_of (device_stored b x) m (WriteWord w))) r' b' x' m'
unfolding counted_reply
write_done b x m bytes w r r' b' x' m' ew k zero er =
    let s : Step = alone_of (device_stored b x) m (WriteWord w) in
    let one = write_one b x m bytes w r b' x' m' ew k in
    either_way (eqb s.outcome.number 0)
    (λ e.
    let o = rw e at one in
    let number : s.outcome.number ≡ 0 = eqb-true _ _ e in
    let value : s.outcome.value ≡ 0 = write_value (device_stored b x) m w in
    record { reply = er ∙ (λ i. host_reply (sym number i) (sym value i)); state = o.state; buffer = o.buffer; sectors = o.sectors })
    (λ e. let o = rw e at one in absurd (let q = sym zero ∙ ap (λ (z : Reply). z.answer) o.reply in omega (arith, q)))

-- it is turned away
pub write_none : (b x m bytes : List ℕ) (w : ℕ) (r : Reply) (b' x' m' : List ℕ) → words_in bytes ≡ w ∷ [] → GivesBack (writes_admitted b x m (words_in bytes)) r b' x' m'
    → (r.answer ≡ 0 → ⊥) → GivesBack (lent_of (alone_of (device_stored b x) m (WriteWord w))) r b' x' m'
unfolding counted_reply
write_none b x m bytes w r b' x' m' ew k not =
    let one = write_one b x m bytes w r b' x' m' ew k in
    either_way (eqb (alone_of (device_stored b x) m (WriteWord w)).outcome.number 0)
    (λ e. let o = rw e at one in absurd (not (ap (λ (z : Reply). z.answer) o.reply)))
    (λ e. let o = rw e at one in rw (write_refused (device_stored b x) m w (eqb-false _ _ e)) (record { reply = o.reply; state = o.state; buffer = o.buffer; sectors = o.sectors }))
