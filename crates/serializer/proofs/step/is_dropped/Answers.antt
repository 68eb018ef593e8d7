-- `is_dropped` meets its contract.
use borrow.Author.Tests.{eq-eqb, ne_eqb}
use Rattle.serializer.proofs.step.is_dropped.Goals as goal

pub returns-then-n-eq-CELL : goal.returns-then-n-eq-CELL
returns-then-n-eq-CELL c = rw (eq-eqb _ _ c.if-n-eq-CELL.true)

pub returns-else-n-eq-CELL : goal.returns-else-n-eq-CELL
returns-else-n-eq-CELL c = rw (ne_eqb _ _ c.if-n-eq-CELL.false)
