-- The device of these parts, the word, and its bytes.
use Rattle.bulk.proofs.Writing.{last_taken}
use Rattle.bulk.proofs.block_word.Goals as goal

pub returns : goal.returns
returns c = last_taken _ _ _ _ _ _ _ _ _ _ _ _ _ c.requires c.password_at-user.ensures c.password_at-master.ensures (rw c.with_buffer-face.ensures at c.password_word.ensures.0) (rw c.with_buffer-face.ensures at c.password_word.ensures.1) c.put_device.ensures.0 c.put_device.ensures.1
