-- `is_indented` meets its contract.
use Rattle.serializer.proofs.texts.is_indented.Goals as goal

pub returns-then-basic : goal.returns-then-basic
returns-then-basic c = rw c.if-basic.true
