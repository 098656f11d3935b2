-- Words of a password block, and what its last one leaves (document 01, "The lock").
use Rattle.std.specs.Prelude.{ℕ, List, ltb}
use Rattle.base.specs.Choice.{pick}
use Rattle.block.specs.Sectors.{zero_block, zeroed}
use Rattle.judging.specs.Judging.{judge_of}
use Rattle.lock.specs.declared.Security.{Security}
use Rattle.lock.specs.declared.Secrets.{Secrets}
use Rattle.judging.specs.declared.Judged.{Judged}
use Rattle.lock.specs.declared.Purpose.{Purpose}
use Rattle.judging.specs.declared.Verdict.{Verdict}
use Rattle.judging.specs.declared.Verdict.TheVariants.{EndsWell, Aborts, Erases}
use Rattle.settled.specs.Settled.{with_security}
use Rattle.face.specs.Face.{with_transfer, with_hot, with_settled, with_buffer, next_password_word}
use Rattle.face.specs.declared.PasswordBlock.{PasswordBlock}
use Rattle.face.specs.declared.Transfer.TheVariants.{TakingPassword}
use Rattle.face.specs.declared.Answer.TheVariants.{Done}
use Rattle.face.specs.declared.Face.{Face}
use Rattle.transfers.specs.Sectors.{abort_face, finish_face}
use Rattle.transfers.specs.Words.{word_in}
use Rattle.effects.specs.Effects.{acted}
use Rattle.effects.specs.declared.Acted.{Acted}

-- the settings that the block left; "The buffer is zeroed however such a transfer ends"
abbrev pub password_ended : Face → Security → Face
password_ended f s = with_buffer (with_settled f (with_security f.settled s)) zero_block

-- the face, by how the command ends
abbrev pub ended_as : Face → Verdict → Face
ended_as f EndsWell = finish_face f
ended_as f Aborts = abort_face f
ended_as f Erases = finish_face f

-- the sectors, by how the command ends: F4h "Accepted: all sectors zero"
abbrev pub sectors_as : List ℕ → Verdict → List ℕ
sectors_as m EndsWell = m
sectors_as m Aborts = m
sectors_as m Erases = zeroed m

-- the judgement of the whole block in the buffer
abbrev pub judgement_of : Face → Secrets → Purpose → Judged
judgement_of f x p = judge_of p f.settled.security x f.buffer

-- what a judgement leaves
abbrev pub judged_acted : Face → Judged → Acted
judged_acted f j = acted (ended_as (password_ended f j.security) j.verdict) j.secrets Done 0

-- the last word has arrived: the disk
unfoldable pub password_last : Face → Secrets → Purpose → Acted
password_last f x p = judged_acted f (judgement_of f x p)

-- the last word has arrived: the sectors
unfoldable pub password_last_sectors : Face → Secrets → List ℕ → Purpose → List ℕ
password_last_sectors f x m p = sectors_as m (judgement_of f x p).verdict

-- a word but the last has arrived: it is in the buffer, and the next one is taken
abbrev pub password_more : Face → PasswordBlock → ℕ → Face
password_more f b w = with_hot (word_in f b.word w) (with_transfer f.hot (TakingPassword (next_password_word b)))

-- a word of a password block is written: the disk
unfoldable pub password_word : Face → Secrets → PasswordBlock → ℕ → Acted
password_word f x b w =
    pick (ltb b.word 255)
    (acted (password_more f b w) x Done 0)
    (password_last (word_in f b.word w) x b.purpose)

-- a word of a password block is written: the sectors
unfoldable pub password_word_sectors : Face → Secrets → List ℕ → PasswordBlock → ℕ → List ℕ
password_word_sectors f x m b w =
    pick (ltb b.word 255) m (password_last_sectors (word_in f b.word w) x m b.purpose)
