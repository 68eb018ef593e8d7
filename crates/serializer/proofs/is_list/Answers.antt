-- `is_list` meets its contract.
use borrow.Author.Tests.{eq-eqb, ne_eqb}
use Rattle.serializer.proofs.is_list.Goals as goal

pub returns-then-tag-eq-UL : goal.returns-then-tag-eq-UL
returns-then-tag-eq-UL c = rw (eq-eqb _ _ c.if-tag-eq-UL.true)

pub returns-else-tag-eq-UL : goal.returns-else-tag-eq-UL
returns-else-tag-eq-UL c = rw (ne_eqb _ _ c.if-tag-eq-UL.false)
