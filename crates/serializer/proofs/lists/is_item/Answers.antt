-- `is_item` meets its contract.
use Rattle.serializer.proofs.lists.is_item.Goals as goal

pub returns-then-bullets : goal.returns-then-bullets
returns-then-bullets c = rw c.if-bullets.true
