-- `trims` meets its contract.
use Rattle.serializer.proofs.texts.trims.Goals as goal

pub returns-else-block : goal.returns-else-block
returns-else-block c = rw c.if-block.false
