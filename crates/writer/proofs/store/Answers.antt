-- `store` meets its contract.
use Rattle.writer.proofs.store.Goals as goal

pub put-requires : goal.put-requires
put-requires c = c.requires c.if-write.true

pub returns-then-write : goal.returns-then-write
returns-then-write c = rw c.if-write.true c.put.ensures.bytes
