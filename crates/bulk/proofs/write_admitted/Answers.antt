-- The words that single writes take; behind them at most one more, which the whole device takes.
use Rattle.bulk.proofs.Few.{bytes_known}
use Rattle.bulk.proofs.Writing.{all_gives, done_gives, few_done, few_written, refused_gives, word_is}
use Rattle.layout.specs.Stored.{secrets_stored}
use Rattle.lent.proofs.Lending.{lent_memory, low_bytes}
use Rattle.words.proofs.Callers.{writes_stopped}
use Rattle.bulk.proofs.write_admitted.Goals as goal
use Rattle.bulk.proofs.write_admitted.Goals.{then-words-wanted+else-last_word, else-words-wanted}

pub write_words-words-requires : goal.write_words-words-requires
write_words-words-requires c = lent_memory _ _ _ _ c.requires c.front_at-front.ensures.1

pub last_word-requires : goal.last_word-requires
last_word-requires c = writes_stopped c.write_words-words.ensures c.if-words-wanted.true (secrets_stored c.args.state.now)

pub counted-requires : goal.counted-requires
counted-requires c = few_done _ _ _ _ _ _ _ _ _ _ _ _ _ _ c.front_at-front.ensures.0 c.front_at-front.ensures.1 (bytes_known _ c.fits-state) c.write_words-words.ensures c.if-words-wanted.true (word_is _ _ c.pair-w.ensures) c.last_word.ensures c.if-last_word.true

pub returns-then-last_word : goal.returns-then-last_word
returns-then-last_word c = done_gives _ _ _ _ _ _ _ _ _ _ _ _ _ _ _ c.front_at-front.ensures.0 c.front_at-front.ensures.1 c.write_words-words.ensures c.if-words-wanted.true (word_is _ _ c.pair-w.ensures) c.last_word.ensures c.if-last_word.true c.counted.ensures

pub counted-requires-2 : goal.counted-requires-2
counted-requires-2 c = few_written _ _ _ _ _ _ _ _ _ c.front_at-front.ensures.0 c.front_at-front.ensures.1 (bytes_known _ c.fits-state) c.write_words-words.ensures

pub returns : goal.returns
returns c =
    elim c.if-words-wanted.branch [
      | then-words-wanted+else-last_word w ↦ rw (w.buffer-is, w.sectors-is)
          (refused_gives _ _ _ _ _ _ _ _ _ _ _ _ _ _ _ _ c.requires (low_bytes _ c.fits-state) c.front_at-front.ensures.0 c.front_at-front.ensures.1 c.write_words-words.ensures w.if-words-wanted.true (word_is _ _ w.pair-w.ensures) w.last_word.ensures w.if-last_word.false (rw w.state-is at c.put_hot.ensures) c.counted-2.ensures)
      | else-words-wanted w ↦ rw (w.buffer-is, w.sectors-is)
          (all_gives _ _ _ _ _ _ _ _ _ _ _ c.requires (low_bytes _ c.fits-state) c.front_at-front.ensures.0 c.front_at-front.ensures.1 c.write_words-words.ensures w.if-words-wanted.false (rw w.state-is at c.put_hot.ensures) c.counted-2.ensures)
    ]
