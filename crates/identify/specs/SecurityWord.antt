-- Word 128 of IDENTIFY (document 01, "IDENTIFY words": "128: bit 0 supported, 1 enabled, 2 locked, 3 frozen, 4 no attempts left, 8 level Maximum").
use Rattle.std.specs.Prelude.{ℕ, ◌+◌, ◌^◌, Bool, true}
use Rattle.base.specs.Choice.{pick}
use Rattle.lock.specs.Lock.{is_locked, is_frozen, exhausted_of}
use Rattle.lock.specs.declared.Security.{Security}

-- what bit k adds to its word
abbrev pub bit : ℕ → Bool → ℕ
bit k set = pick set (2 ^ k) 0

-- the security settings as bits; security is always supported
unfoldable pub security_word : Security → ℕ
security_word s =
    bit 0 true
    + bit 1 s.enabled
    + bit 2 (is_locked s.lock)
    + bit 3 (is_frozen s.lock)
    + bit 4 (exhausted_of s)
    + bit 8 s.maximum
