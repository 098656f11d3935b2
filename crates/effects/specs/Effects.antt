-- What an action leaves and shows, with the passwords and the sectors (document 01, "Host actions and when they are turned away").
use Rattle.std.specs.Prelude.{ℕ, List}
use Rattle.lock.specs.declared.Secrets.{Secrets}
use Rattle.face.specs.Face.{with_hot}
use Rattle.face.specs.declared.Hot.{Hot}
use Rattle.face.specs.declared.Shows.{Shows}
use Rattle.face.specs.declared.Answer.{Answer}
use Rattle.face.specs.declared.Face.{Face}
use Rattle.effects.specs.declared.Acted.{Acted}

-- what an action leaves of a disk, and what it shows
abbrev pub acted : Face → Secrets → Answer → ℕ → Acted
acted f x a v = record { face = f; secrets = x; answer = a; value = v }

-- what an action leaves: the disk, what it shows, and every sector
pub record Effect : Type 0 where
  pub acted : Acted
  pub sectors : List ℕ

-- an action that leaves this
abbrev pub effect : Acted → List ℕ → Effect
effect a m = record { acted = a; sectors = m }

-- an action on the hot part
abbrev pub seen_acted : Face → Secrets → Shows Hot → Acted
seen_acted f x s = acted (with_hot f s.left) x s.answer s.value
