-- The words that single reads give; the hot part that they lead to goes back.
use Rattle.bulk.proofs.Few.{bytes_known}
use Rattle.bulk.proofs.Reading.{few_read, reads_gives}
use Rattle.lent.proofs.Lending.{lent_memory, low_bytes}
use Rattle.bulk.proofs.read_admitted.Goals as goal

pub read_words-passed-requires : goal.read_words-passed-requires
read_words-passed-requires c = lent_memory _ _ _ _ c.requires c.front_at-front.ensures.1

pub counted-requires : goal.counted-requires
counted-requires c = few_read _ _ _ _ _ _ _ _ _ c.front_at-front.ensures.0 c.front_at-front.ensures.1 (bytes_known _ c.fits-state) c.read_words-passed.ensures

pub returns : goal.returns
returns c = reads_gives _ _ _ _ _ _ _ _ _ _ _ c.requires (low_bytes _ c.fits-state) c.front_at-front.ensures.0 c.front_at-front.ensures.1 c.read_words-passed.ensures c.put_hot.ensures c.counted.ensures
