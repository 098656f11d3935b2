-- What a whole password block leaves of settings and passwords, and how its command ends (document 01, "The lock").
use Rattle.std.specs.Prelude.{ℕ, ◌-◌, Bool, true, false, List, ltb}
use Rattle.base.specs.Choice.{pick}
use Rattle.block.specs.Passwords.{password_of}
use Rattle.lock.specs.Lock.{is_locked, with_lock, with_attempts, unprepared_of}
use Rattle.lock.specs.Passwords.{zero_password}
use Rattle.judging.specs.Passwords.{with_user, with_master, master_picked, maximum_asked, matches_of}
use Rattle.lock.specs.declared.Lock.TheVariants.{Open}
use Rattle.lock.specs.declared.Security.{Security}
use Rattle.lock.specs.declared.Secrets.{Secrets}
use Rattle.judging.specs.declared.Judged.{Judged}
use Rattle.lock.specs.declared.Purpose.{Purpose}
use Rattle.lock.specs.declared.Purpose.TheVariants.{Set, Unlock, Erase, Disable}
use Rattle.judging.specs.declared.Verdict.{Verdict}
use Rattle.judging.specs.declared.Verdict.TheVariants.{EndsWell, Aborts, Erases}

-- the settings with another enabled mark and level
abbrev pub with_level : Security → Bool → Bool → Security
with_level s e m = record { lock = s.lock; enabled = e; maximum = m; attempts = s.attempts; prepared = s.prepared }

-- F2h: "A match opens .. Opening doesn't restore attempts"
abbrev pub opened_of : Security → Security
opened_of s = with_lock s Open

-- F2h: "a mismatch aborts and takes one attempt"
unfoldable pub mismatched_of : Security → Security
mismatched_of s = pick (ltb 0 s.attempts) (with_attempts s (s.attempts - 1)) s

-- F1h user: "store password and level, enable"
abbrev pub enabled_at : Security → Bool → Security
enabled_at s m = with_level s true m

-- F4h and F6h accepted: "security off, level High .. open"
abbrev pub disabled_of : Security → Security
disabled_of s = with_lock (with_level s false false) Open

-- settings, passwords and the command's end
abbrev pub judged : Security → Secrets → Verdict → Judged
judged s x v = record { security = s; secrets = x; verdict = v }

-- "F1h user: store password and level, enable .. F1h master: store the password only"
unfoldable pub set_of : Security → Secrets → List ℕ → Judged
set_of s x b =
    pick (master_picked b) (judged s (with_master x (password_of b)) EndsWell)
    (judged (enabled_at s (maximum_asked b)) (with_user x (password_of b)) EndsWell)

-- "master at Maximum"
unfoldable pub master_at_maximum : Security → List ℕ → Bool
master_at_maximum s b = pick (master_picked b) s.maximum false

-- F2h "Locked: master at Maximum aborts uncompared and uncounted. A match opens; a mismatch aborts and takes one attempt"
unfoldable pub unlock_locked : Security → Secrets → List ℕ → Judged
unlock_locked s x b =
    pick (master_at_maximum s b) (judged s x Aborts)
    (pick (matches_of x b) (judged (opened_of s) x EndsWell) (judged (mismatched_of s) x Aborts))

-- "F2h not locked: ends well, nothing compared"
unfoldable pub unlock_of : Security → Secrets → List ℕ → Judged
unlock_of s x b = pick (is_locked s.lock) (unlock_locked s x b) (judged s x EndsWell)

-- "F4h compares the picked password at either level (uncompared if security is not enabled)"
unfoldable pub accepts_of : Security → Secrets → List ℕ → Bool
accepts_of s x b = pick s.enabled (matches_of x b) true

-- F4h "a mismatch aborts and takes no attempt. Accepted: all sectors zero, security off, level High, user password zero, open"
unfoldable pub erase_of : Security → Secrets → List ℕ → Judged
erase_of s x b =
    pick (accepts_of s x b) (judged (disabled_of (unprepared_of s)) (with_user x zero_password) Erases)
    (judged (unprepared_of s) x Aborts)

-- "F6h compares by F4h's rule; a mismatch aborts and takes no attempt; accepted: security off .. sectors kept"
unfoldable pub disable_of : Security → Secrets → List ℕ → Judged
disable_of s x b =
    pick (accepts_of s x b) (judged (disabled_of s) (with_user x zero_password) EndsWell) (judged s x Aborts)

-- a whole block, by the command that took it
unfoldable pub judge_of : Purpose → Security → Secrets → List ℕ → Judged
judge_of Set s x b = set_of s x b
judge_of Unlock s x b = unlock_of s x b
judge_of Erase s x b = erase_of s x b
judge_of Disable s x b = disable_of s x b
