-- `store_byte` meets its contract.
use Rattle.writer.proofs.store_byte.Goals as goal

pub bounds-out-at : goal.bounds-out-at
bounds-out-at c = c.requires c.if-write.true

pub returns-then-write : goal.returns-then-write
returns-then-write c = rw c.if-write.true
