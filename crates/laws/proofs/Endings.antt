-- A transfer ends within 65,536 data words: each word that is taken leaves fewer, and no command opens one with more.
use mathlib.Core.Path.{◌≡◌, refl}
use mathlib.Core.List.{List, [], ◌∷◌}
use lib.ListN.{length}
use Prim.Native.Nat.{ℕ, ◌+◌, ◌-◌, ◌*◌, ◌≤◌, ◌<◌}
use native.Mathlib.Omega.{arith}
use lib.Dec.{ltb}
use borrow.Author.Tests.{ltb-true}
use Rattle.base.proofs.Tests.{pick_each}
use Rattle.address.specs.declared.Address.{Address}
use Rattle.address.specs.declared.Address.TheVariants.{Names, Faults}
use Rattle.lock.specs.declared.Secrets.{Secrets}
use Rattle.lock.specs.declared.Purpose.{Purpose}
use Rattle.judging.specs.declared.Verdict.{Verdict}
use Rattle.judging.specs.declared.Verdict.TheVariants.{EndsWell, Aborts, Erases}
use Rattle.face.specs.declared.Run.{Run}
use Rattle.face.specs.declared.PasswordBlock.{PasswordBlock}
use Rattle.face.specs.declared.Face.{Face}
use Rattle.face.specs.declared.Transfer.{Transfer}
use Rattle.face.specs.declared.Transfer.TheVariants.{Idle, Reading, Writing, ReadingBuffer, WritingBuffer, TakingPassword}
use Rattle.face.specs.declared.Answer.TheVariants.{Done, NoTransfer}
use Rattle.face.specs.declared.Action.{Action}
use Rattle.face.specs.declared.Action.TheVariants.{ReadWord, WriteWord}
use Rattle.transfers.specs.Sectors.{located, next_run, not_found_of}
use Rattle.reading.specs.Sectors.{read_as, read_at}
use Rattle.transfers.specs.Words.{read_buffer_word, word_in, write_buffer_word}
use Rattle.reading.specs.Words.{read_next_of, read_run_of, read_word_as, read_word_of}
use Rattle.writing.specs.Words.{want_as, want_at, write_next_of, write_last_as, write_last_of, write_run_of}
use Rattle.password.specs.Passwords.{password_ended, ended_as, judgement_of, password_last, password_word}
use Rattle.disk.specs.Actions.{write_word_as, write_word_of, act_of}
use Rattle.effects.specs.declared.Acted.{Acted}

-- how many words a transfer has still to take
abbrev pub words_left : Transfer → ℕ
words_left Idle = 0
words_left (Reading r) = 256 * r.after + (256 - r.word)
words_left (Writing r) = 256 * r.after + (256 - r.word)
words_left (ReadingBuffer n) = 256 - n
words_left (WritingBuffer n) = 256 - n
words_left (TakingPassword b) = 256 - b.word

-- what the types say of a transfer's numbers, which are bytes
abbrev pub Bytes : Transfer → Type 0
Bytes Idle = Unit
Bytes (Reading r) = (r.after < 256) × (r.word < 256)
Bytes (Writing r) = (r.after < 256) × (r.word < 256)
Bytes (ReadingBuffer n) = n < 256
Bytes (WritingBuffer n) = n < 256
Bytes (TakingPassword b) = b.word < 256

-- no transfer has more than 65,536 words
pub most_words : (t : Transfer) → Bytes t → words_left t ≤ 65536
most_words Idle p = omega arith
most_words (Reading r) p = let a : r.after < 256 = p.0 in omega arith
most_words (Writing r) p = let a : r.after < 256 = p.0 in omega arith
most_words (ReadingBuffer n) p = omega arith
most_words (WritingBuffer n) p = omega arith
most_words (TakingPassword b) p = omega arith

-- fewer words are left than before
pub record Fewer (n : ℕ) (f : Face) : Type 0 where
  pub less : words_left f.hot.transfer < n
  pub bytes : Bytes f.hot.transfer

read_fewer : (n : ℕ) (f : Face) (m : List ℕ) (r : Run) (a : Address) → r.word ≡ 0 → r.after < 256 → 256 * r.after + 256 < n → Fewer n (read_as f m r a)
unfolding not_found_of
read_fewer n f m r (Names x) e h l = record { less = let w : r.word ≡ 0 = e in omega arith; bytes = (h, let w : r.word ≡ 0 = e in omega arith) }
read_fewer n f m r Faults e h l = record { less = omega arith; bytes = tt }

want_fewer : (n : ℕ) (f : Face) (r : Run) (a : Address) → r.word ≡ 0 → r.after < 256 → 256 * r.after + 256 < n → Fewer n (want_as f r a)
unfolding not_found_of
want_fewer n f r (Names x) e h l = record { less = let w : r.word ≡ 0 = e in omega arith; bytes = (h, let w : r.word ≡ 0 = e in omega arith) }
want_fewer n f r Faults e h l = record { less = omega arith; bytes = tt }

-- one sector fewer
next_less : (after word : ℕ) → 0 < after → after < 256 → word < 256 → (256 * (after - 1) + 256 < 256 * after + (256 - word)) × (after - 1 < 256)
next_less after word p q r = (omega arith, omega arith)

-- one word fewer
word_less : (after word : ℕ) → after < 256 → word < 255 → (256 * after + (256 - (word + 1)) < 256 * after + (256 - word)) × (word + 1 < 256)
word_less after word p q = (omega arith, omega arith)

-- none left
none_less : (after word : ℕ) → word < 256 → 0 < 256 * after + (256 - word)
none_less after word p = omega arith

read_run_fewer : (f : Face) (m : List ℕ) (r : Run) → r.after < 256 → r.word < 256 → Fewer (256 * r.after + (256 - r.word)) (read_run_of f m r)
unfolding read_run_of read_next_of read_at
read_run_fewer f m r p q =
    pick_each (Fewer _) (ltb r.word 255) _ _
    (λ e. let h = word_less r.after r.word p (ltb-true _ _ e) in record { less = h.0; bytes = (p, h.1) })
    (λ e. pick_each (Fewer _) (ltb 0 r.after) _ _
    (λ z. let h = next_less r.after r.word (ltb-true _ _ z) p q in
    read_fewer _ f m (next_run r f.settled.translation) (located f.settled (next_run r f.settled.translation).at) refl h.1 h.0)
    (λ z. record { less = none_less r.after r.word q; bytes = tt }))

write_next_fewer : (f : Face) (r : Run) → r.after < 256 → r.word < 256 → Fewer (256 * r.after + (256 - r.word)) (write_next_of f r)
unfolding write_next_of want_at
write_next_fewer f r p q =
    pick_each (Fewer _) (ltb 0 r.after) _ _
    (λ z. let h = next_less r.after r.word (ltb-true _ _ z) p q in
    want_fewer _ f (next_run r f.settled.translation) (located f.settled (next_run r f.settled.translation).at) refl h.1 h.0)
    (λ z. record { less = none_less r.after r.word q; bytes = tt })

write_last_fewer : (f : Face) (r : Run) (a : Address) → r.after < 256 → r.word < 256 → Fewer (256 * r.after + (256 - r.word)) (write_last_as f r a)
unfolding not_found_of
write_last_fewer f r (Names x) p q = write_next_fewer f r p q
write_last_fewer f r Faults p q = record { less = none_less r.after r.word q; bytes = tt }

write_run_fewer : (f : Face) (r : Run) (w : ℕ) → r.after < 256 → r.word < 256 → Fewer (256 * r.after + (256 - r.word)) (write_run_of f r w)
unfolding write_run_of write_last_of
write_run_fewer f r w p q =
    pick_each (Fewer _) (ltb r.word 255) _ _
    (λ e. let h = word_less r.after r.word p (ltb-true _ _ e) in record { less = h.0; bytes = (p, h.1) })
    (λ e. write_last_fewer (word_in f r.word w) r (located f.settled r.at) p q)

-- one-block transfers
block_less : (n : ℕ) → n < 255 → (256 - (n + 1) < 256 - n) × (n + 1 < 256)
block_less n h = (omega arith, omega arith)

block_none : (n : ℕ) → n < 256 → 0 < 256 - n
block_none n h = omega arith

read_buffer_fewer : (f : Face) (n : ℕ) → n < 256 → Fewer (256 - n) (read_buffer_word f n)
unfolding read_buffer_word
read_buffer_fewer f n q =
    pick_each (Fewer _) (ltb n 255) _ _ (λ e. let h = block_less n (ltb-true _ _ e) in record { less = h.0; bytes = h.1 }) (λ e. record { less = block_none n q; bytes = tt })

write_buffer_fewer : (f : Face) (n w : ℕ) → n < 256 → Fewer (256 - n) (write_buffer_word f n w)
unfolding write_buffer_word
write_buffer_fewer f n w q =
    pick_each (Fewer _) (ltb n 255) _ _ (λ e. let h = block_less n (ltb-true _ _ e) in record { less = h.0; bytes = h.1 }) (λ e. record { less = block_none n q; bytes = tt })

ended_fewer : (n : ℕ) (f : Face) (v : Verdict) → 0 < n → Fewer n (ended_as f v)
ended_fewer n f EndsWell h = record { less = h; bytes = tt }
ended_fewer n f Aborts h = record { less = h; bytes = tt }
ended_fewer n f Erases h = record { less = h; bytes = tt }

password_last_fewer : (n : ℕ) (f : Face) (x : Secrets) (p : Purpose) → 0 < n → Fewer n (password_last f x p).face
unfolding password_last
password_last_fewer n f x p h = ended_fewer n (password_ended f (judgement_of f x p).security) (judgement_of f x p).verdict h

password_fewer : (f : Face) (x : Secrets) (b : PasswordBlock) (w : ℕ) → b.word < 256 → Fewer (256 - b.word) (password_word f x b w).face
unfolding password_word
password_fewer f x b w q =
    pick_each (λ (a : Acted). Fewer (256 - b.word) a.face) (ltb b.word 255) _ _ (λ e. let h = block_less b.word (ltb-true _ _ e) in record { less = h.0; bytes = h.1 })
    (λ e. password_last_fewer _ (word_in f b.word w) x b.purpose (block_none b.word q))

-- a word that is turned away is no word taken
refused_not : NoTransfer ≡ Done → ⊥
refused_not e = cc

read_word_fewer : (f : Face) (m : List ℕ) (t : Transfer) → Bytes t → (read_word_as f m t).answer ≡ Done → Fewer (words_left t) (read_word_as f m t).left
read_word_fewer f m Idle b e = absurd (refused_not e)
read_word_fewer f m (Reading r) b e = read_run_fewer f m r b.0 b.1
read_word_fewer f m (Writing r) b e = absurd (refused_not e)
read_word_fewer f m (ReadingBuffer n) b e = read_buffer_fewer f n b
read_word_fewer f m (WritingBuffer n) b e = absurd (refused_not e)
read_word_fewer f m (TakingPassword p) b e = absurd (refused_not e)

write_word_fewer : (f : Face) (x : Secrets) (m : List ℕ) (w : ℕ) (t : Transfer) → Bytes t → (write_word_as f x m w t).acted.answer ≡ Done
    → Fewer (words_left t) (write_word_as f x m w t).acted.face
write_word_fewer f x m w Idle b e = absurd (refused_not e)
write_word_fewer f x m w (Reading r) b e = absurd (refused_not e)
write_word_fewer f x m w (Writing r) b e = write_run_fewer f r w b.0 b.1
write_word_fewer f x m w (ReadingBuffer n) b e = absurd (refused_not e)
write_word_fewer f x m w (WritingBuffer n) b e = write_buffer_fewer f n w b
write_word_fewer f x m w (TakingPassword p) b e = password_fewer f x p w b

-- a data word: read or written
pub data Word : Type 0 where
  Read : Word
  Written : ℕ → Word

abbrev pub action_of : Word → Action
action_of Read = ReadWord
action_of (Written w) = WriteWord w

pub act_fewer : (f : Face) (x : Secrets) (m : List ℕ) (w : Word) → Bytes f.hot.transfer → (act_of f x m (action_of w)).acted.answer ≡ Done
    → Fewer (words_left f.hot.transfer) (act_of f x m (action_of w)).acted.face
unfolding act_of read_word_of write_word_of
act_fewer f x m Read b e = read_word_fewer f m f.hot.transfer b e
act_fewer f x m (Written w) b e = write_word_fewer f x m w f.hot.transfer b e

-- each of a list of data words is answered 0
unfoldable pub AllTaken : Face → Secrets → List ℕ → List Word → Type 0
AllTaken f x m [] = Unit
AllTaken f x m (w ∷ ws) =
    ((act_of f x m (action_of w)).acted.answer ≡ Done)
    × AllTaken (act_of f x m (action_of w)).acted.face (act_of f x m (action_of w)).acted.secrets (act_of f x m (action_of w)).sectors ws

-- so many data words in a row are at most the words that are left, and these are at most 65,536
pub ends_within : (f : Face) (x : Secrets) (m : List ℕ) (ws : List Word) → Bytes f.hot.transfer → AllTaken f x m ws → length ws ≤ words_left f.hot.transfer
unfolding AllTaken
ends_within f x m [] b t = omega arith
ends_within f x m (w ∷ ws) b t =
    let k = act_fewer f x m w b t.0 in
    let h : length ws ≤ words_left (act_of f x m (action_of w)).acted.face.hot.transfer =
    ends_within (act_of f x m (action_of w)).acted.face (act_of f x m (action_of w)).acted.secrets (act_of f x m (action_of w)).sectors ws k.bytes t.1 in
    let l : words_left (act_of f x m (action_of w)).acted.face.hot.transfer < words_left f.hot.transfer = k.less in
    omega arith
