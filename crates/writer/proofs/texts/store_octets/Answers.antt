-- `store_octets` meets its contract.
use Rattle.writer.proofs.texts.store_octets.Goals as goal

pub store_word-requires : goal.store_word-requires
store_word-requires c = c.requires c.if-write.true

pub returns-then-write : goal.returns-then-write
returns-then-write c = rw c.if-write.true c.store_word.ensures
