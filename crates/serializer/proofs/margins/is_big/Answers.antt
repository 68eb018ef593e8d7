-- `is_big` meets its contract.
use Rattle.serializer.proofs.margins.is_big.Goals as goal

pub returns-then-n : goal.returns-then-n
returns-then-n c = rw c.if-n.true
