-- `write::column` meets its contract.
use borrow.Author.Tests.{eq-eqb, ne_eqb}
use Rattle.sheet.proofs.write.column.Goals as goal

pub returns-then-q-eq0 : goal.returns-then-q-eq0
returns-then-q-eq0 c = simp (eq-eqb _ _ c.if-q-eq0.true)

pub returns : goal.returns
returns c = simp (ne_eqb _ _ c.if-q-eq0.false)
