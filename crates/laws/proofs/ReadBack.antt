-- A sector written is the sector read back: 256 words written store just these words, and 256 words read are the sector's.
use mathlib.Core.Path.{◌≡◌, refl, sym, ap, ◌∙◌}
use mathlib.Core.List.{List, [], ◌∷◌, map}
use Prim.Native.Nat.{ℕ, zero, suc, ◌+◌, ◌*◌, ◌≤◌, ◌<◌}
use native.Mathlib.Omega.{arith}
use lib.ListN.{length, replicate}
use borrow.Author.Tests.{eq-eqb, lt-ltb}
use Rattle.address.specs.declared.Address.{Address}
use Rattle.address.specs.declared.Address.TheVariants.{Names}
use Rattle.address.specs.declared.Sector.{Sector}
use Rattle.block.specs.Words.{word_at, word_put}
use Rattle.block.specs.Sectors.{sector_at, stored_at}
use Rattle.block.proofs.WordLaws.{put_length, put_same, put_other}
use Rattle.block.proofs.SectorLaws.{Room, stored_same, stored_other}
use Rattle.face.specs.Face.{with_transfer, with_hot, next_word}
use Rattle.face.specs.declared.Run.{Run}
use Rattle.face.specs.declared.Face.{Face}
use Rattle.face.specs.declared.Transfer.{Transfer}
use Rattle.face.specs.declared.Transfer.TheVariants.{Reading, Writing}
use Rattle.face.specs.declared.Answer.TheVariants.{Done}
use Rattle.face.specs.declared.Action.TheVariants.{ReadWord, WriteWord}
use Rattle.transfers.specs.Sectors.{located}
use Rattle.reading.specs.Sectors.{read_as, read_at}
use Rattle.transfers.specs.Words.{word_in}
use Rattle.reading.specs.Words.{read_run_of, read_word_as, read_word_of}
use Rattle.writing.specs.Words.{write_run_of, write_run_sectors}
use Rattle.transfers.proofs.Reached.{memory_room}
use Rattle.effects.specs.Effects.{effect}
use Rattle.disk.specs.Actions.{told_acted, write_word_as, write_word_of, act_of}
use Rattle.device.specs.Alone.{Step, device_of, outcome, step_as, alone_of}
use Rattle.fastpath.specs.Dev.{ignored_of}
use Rattle.device.specs.Host.{Ready, shaped_of, step_of}
use Rattle.device.specs.declared.Device.{Device}
use Rattle.device.proofs.Memories.{shaped_memory}
use Rattle.laws.specs.Sessions.{session_of, values_of}
use Rattle.laws.proofs.Reached.{step_shaped}
use Rattle.laws.proofs.Stored.{word_stores}

-- ---- words in a block

-- the block with these words from place n on
unfoldable pub put_all : List ℕ → ℕ → List ℕ → List ℕ
put_all b n [] = b
put_all b n (w ∷ ws) = put_all (word_put b n w) (n + 1) ws

-- k words of the block from place n on
unfoldable pub words_from : List ℕ → ℕ → ℕ → List ℕ
words_from b n zero = []
words_from b n (suc k) = word_at b n ∷ words_from b (n + 1) k

put_all_length : (b : List ℕ) (n : ℕ) (ws : List ℕ) → length (put_all b n ws) ≡ length b
unfolding put_all
put_all_length b n [] = refl
put_all_length b n (w ∷ ws) = put_all_length (word_put b n w) (n + 1) ws ∙ put_length b n w

-- words before the place stay
put_all_before : (b : List ℕ) (n : ℕ) (ws : List ℕ) (j : ℕ) → j < n → word_at (put_all b n ws) j ≡ word_at b j
unfolding put_all
put_all_before b n [] j h = refl
put_all_before b n (w ∷ ws) j h =
    put_all_before (word_put b n w) (n + 1) ws j (omega arith) ∙ put_other b n j w (λ e. let q : j ≡ n = e in omega arith)

-- words put are read back
pub put_all_words : (b : List ℕ) (n : ℕ) (ws : List ℕ) → 2 * n + 2 * length ws ≤ length b → words_from (put_all b n ws) n (length ws) ≡ ws
unfolding put_all words_from
put_all_words b n [] h = refl
put_all_words b n (w ∷ ws) h =
    let l : length (word_put b n w) ≡ length b = put_length b n w in
    let here : word_at (put_all (word_put b n w) (n + 1) ws) n ≡ w = put_all_before (word_put b n w) (n + 1) ws n (omega arith) ∙ put_same b n w (omega arith) in
    let rest : words_from (put_all (word_put b n w) (n + 1) ws) (n + 1) (length ws) ≡ ws = put_all_words (word_put b n w) (n + 1) ws (omega arith) in
    cc

-- ---- 256 words written

-- the device after a word that is not its sector's last
abbrev goes_on_writing : Device → Run → ℕ → Device
goes_on_writing d r w = device_of (with_hot (word_in d.face r.word w) (with_transfer d.face.hot (Writing (next_word r)))) d.secrets

word_on : (d : Device) (m : List ℕ) (r : Run) (w : ℕ) → r.word < 255
    → step_as (write_word_as d.face d.secrets m w (Writing r)) ≡ record { outcome = outcome (goes_on_writing d r w) Done 0; sectors = m }
unfolding write_run_of write_run_sectors
word_on d m r w h = rw (lt-ltb r.word 255 h)

partial_step : (d : Device) (m : List ℕ) (r : Run) (w : ℕ) → Ready d m → d.face.hot.transfer ≡ Writing r → r.word < 255
    → step_of d m (WriteWord w) ≡ record { outcome = outcome (goes_on_writing d r w) Done 0; sectors = m }
unfolding step_of alone_of ignored_of act_of write_word_of
partial_step d m r w k e h =
    simp (k.shaped, eq-eqb _ _ k.long) (ap (λ (t : Transfer). step_as (write_word_as d.face d.secrets m w t)) e ∙ word_on d m r w h)

-- the sectors after these words are written one after the other
abbrev pub sectors_after : Device → List ℕ → List ℕ → List ℕ
sectors_after d m ws = (session_of step_of d m (map WriteWord ws)).sectors

-- the words that are left of a sector store it: the buffer with these words
pub sector_written : (ws : List ℕ) (d : Device) (m : List ℕ) (r : Run) (x : Sector) → Ready d m → d.face.hot.transfer ≡ Writing r
    → r.word + length ws ≡ 256 → r.word < 256 → located d.face.settled r.at ≡ Names x
    → sectors_after d m ws ≡ stored_at m x.number (put_all d.face.buffer r.word ws)
unfolding session_of put_all
sector_written [] d m r x k e h l n = absurd (let q : r.word + 0 ≡ 256 = h in omega arith)
sector_written (w ∷ []) d m r x k e h l n = word_stores d m w r x k e (let q : r.word + 1 ≡ 256 = h in omega arith) n
sector_written (w ∷ v ∷ ws) d m r x k e h l n =
    let p : r.word < 255 = omega arith in
    let s = partial_step d m r w k e p in
    let shaped = sym (ap (λ (t : Step). shaped_of t.outcome.device) s) ∙ step_shaped d m (WriteWord w) k.shaped in
    ap (λ (t : Step). sectors_after t.outcome.device t.sectors (v ∷ ws)) s
    ∙ sector_written (v ∷ ws) (goes_on_writing d r w) m (next_word r) x record { shaped = shaped; long = k.long } refl (omega arith) (omega arith) n

-- ---- 256 words read

abbrev goes_on_reading : Device → Run → Device
goes_on_reading d r = device_of (with_hot d.face (with_transfer d.face.hot (Reading (next_word r)))) d.secrets

word_read : (d : Device) (m : List ℕ) (r : Run) → r.word < 255
    → step_as (effect (told_acted d.secrets (read_word_as d.face m (Reading r))) m) ≡ record { outcome = outcome (goes_on_reading d r) Done (word_at d.face.buffer r.word); sectors = m }
unfolding read_run_of
word_read d m r h = rw (lt-ltb r.word 255 h)

read_step : (d : Device) (m : List ℕ) (r : Run) → Ready d m → d.face.hot.transfer ≡ Reading r
    → step_of d m ReadWord ≡ step_as (effect (told_acted d.secrets (read_word_as d.face m (Reading r))) m)
unfolding step_of alone_of ignored_of act_of read_word_of
read_step d m r k e =
    simp (k.shaped, eq-eqb _ _ k.long) (ap (λ (t : Transfer). step_as (effect (told_acted d.secrets (read_word_as d.face m t)) m)) e)

-- the values of so many data words read one after the other
abbrev pub values_read : ℕ → Device → List ℕ → List ℕ
values_read n d m = values_of (session_of step_of d m (replicate n ReadWord)).answers

-- the words that are left of a sector are read off the buffer
pub sector_read : (n : ℕ) (d : Device) (m : List ℕ) (r : Run) → Ready d m → d.face.hot.transfer ≡ Reading r → r.word + n ≡ 256
    → values_read n d m ≡ words_from d.face.buffer r.word n
unfolding session_of words_from
sector_read zero d m r k e h = refl
sector_read (suc zero) d m r k e h = ap (λ (t : Step). t.outcome.value ∷ []) (read_step d m r k e)
sector_read (suc (suc n)) d m r k e h =
    let p : r.word < 255 = omega arith in
    let s = read_step d m r k e ∙ word_read d m r p in
    let shaped = sym (ap (λ (t : Step). shaped_of t.outcome.device) s) ∙ step_shaped d m ReadWord k.shaped in
    let rest = sector_read (suc n) (goes_on_reading d r) m (next_word r) record { shaped = shaped; long = k.long } refl (omega arith) in
    ap (λ (t : Step). t.outcome.value ∷ values_read (suc n) t.outcome.device t.sectors) s ∙ ap (λ (l : List ℕ). word_at d.face.buffer r.word ∷ l) rest

-- ---- both

-- READ SECTOR(S) reaches a sector with just that sector in the buffer
pub read_loads : (f : Face) (m : List ℕ) (r : Run) (x : Sector) → located f.settled r.at ≡ Names x
    → ((read_at f m r).buffer ≡ sector_at m x.number) × ((read_at f m r).hot.transfer ≡ Reading r)
unfolding read_at
read_loads f m r x e = (ap (λ (a : Address). (read_as f m r a).buffer) e, ap (λ (a : Address). (read_as f m r a).hot.transfer) e)

-- 256 words written as sector x, then the same sector read: the words written; every other sector is as it was
pub written_read_back : (ws : List ℕ) (d : Device) (m : List ℕ) (r : Run) (x : Sector) (e : Device) (q : Run)
    → Ready d m → d.face.hot.transfer ≡ Writing r → r.word ≡ 0 → length ws ≡ 256 → located d.face.settled r.at ≡ Names x → length d.face.buffer ≡ 512
    → Ready e (sectors_after d m ws) → e.face.hot.transfer ≡ Reading q → q.word ≡ 0 → e.face.buffer ≡ sector_at (sectors_after d m ws) x.number
    → (values_read 256 e (sectors_after d m ws) ≡ ws)
    × ((n : ℕ) → (n ≡ x.number → ⊥) → sector_at (sectors_after d m ws) n ≡ sector_at m n)
written_read_back ws d m r x e q k t z l n b j u y o = (values, λ n h. ap (λ (s : List ℕ). sector_at s n) stored ∙ stored_other room n h)
  where
    block : List ℕ
    block = put_all d.face.buffer 0 ws

    stored : sectors_after d m ws ≡ stored_at m x.number block
    stored =
        sector_written ws d m r x k t (let h : r.word ≡ 0 = z in let g : length ws ≡ 256 = l in omega arith) (let h : r.word ≡ 0 = z in omega arith) n
        ∙ ap (λ (i : ℕ). stored_at m x.number (put_all d.face.buffer i ws)) z

    room : Room m x.number block
    room =
        record {
          inside = memory_room (shaped_memory d m k.shaped k.long) r.at x n;
          whole = put_all_length d.face.buffer 0 ws ∙ b;
        }

    held : e.face.buffer ≡ block
    held = o ∙ ap (λ (s : List ℕ). sector_at s x.number) stored ∙ stored_same room

    words : words_from block 0 (length ws) ≡ ws
    words = put_all_words d.face.buffer 0 ws (let h : length d.face.buffer ≡ 512 = b in let g : length ws ≡ 256 = l in omega arith)

    values : values_read 256 e (sectors_after d m ws) ≡ ws
    values =
        sector_read 256 e (sectors_after d m ws) q j u (let h : q.word ≡ 0 = y in omega arith)
        ∙ ap (λ (i : ℕ). words_from e.face.buffer i 256) y
        ∙ ap (λ (s : List ℕ). words_from s 0 256) held
        ∙ ap (λ (i : ℕ). words_from block 0 i) (sym l)
        ∙ words
