-- What DEV hides, a word as a bulk of one, or hot and settled part; the fast path has settled the rest.
use Rattle.lent.proofs.Lending.{low_bytes}
use Rattle.single.proofs.Open.{line_settles, put_open, read_open}
use Rattle.single.proofs.Parts.{ignored_gives, reset_gives}
use mathlib.Core.Logic.{⊎_elim}
use mathlib.Core.Path.{refl}
use Rattle.single.proofs.slow.Goals as goal

pub write_open-requires : goal.write_open-requires
write_open-requires c = (c.requires.0, put_open _ _ _ _ (rw c.in-WriteRegister.is at c.requires.1))

pub returns-in-ReadRegister : goal.returns-in-ReadRegister
returns-in-ReadRegister c =
    ⊎_elim
    (λ e. rw e.1 (ignored_gives _ _ _ _ _ _ c.requires.0.formed (low_bytes _ c.fits-state) refl (read_open _ _ _ (rw e.1 at c.requires.1)) c.hidden.ensures))
    (λ e. absurd (line_settles _ _ (rw e at c.requires.1)))
    c.in-ReadRegister.is

pub returns-in-WriteRegister : goal.returns-in-WriteRegister
returns-in-WriteRegister c = rw c.in-WriteRegister.is c.write_open.ensures

pub returns-in-ReadWord : goal.returns-in-ReadWord
returns-in-ReadWord c = rw c.in-ReadWord.is c.read_one.ensures

pub returns-in-WriteWord : goal.returns-in-WriteWord
returns-in-WriteWord c = rw c.in-WriteWord.is c.write_one.ensures

pub returns-in-HardwareReset : goal.returns-in-HardwareReset
returns-in-HardwareReset c =
    ⊎_elim
    (λ e. rw e (reset_gives c.args.state.now c.args.buffer.now c.args.sectors.now _ _ _ (c.power_on.ensures _)))
    (λ e. rw e (c.power_on.ensures _))
    c.in-HardwareReset.is
