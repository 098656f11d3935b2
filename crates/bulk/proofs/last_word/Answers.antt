-- None but a password block takes the word.
use Rattle.bulk.proofs.Writing.{last_refused}
use Rattle.bulk.proofs.last_word.Goals as goal

pub returns-in_default : goal.returns-in_default
returns-in_default c = last_refused _ _ _ _ _ _ c.requires c.in_default.not-TakingPassword
