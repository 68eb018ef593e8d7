-- `rows` meets its contract.
use native.Mathlib.Omega.{arith}
use borrow.Author.Tests.{eq-eqb}
use Rattle.serializer.proofs.RowLaws.{rows_close, rows_open, rows_other}
use Rattle.serializer.proofs.rows.rows.Goals as goal

pub returns-then-n : goal.returns-then-n
returns-then-n c = rw c.less_one.ensures (rows_close _ _ _ c.if-n-eq-TR.true c.if-n.true)

pub bounds-cells-at : goal.bounds-cells-at
bounds-cells-at c = c.requires (eq-eqb _ 1 c.if-n-eq-TR.true) c.if-n.false

pub overflow_add-r : goal.overflow_add-r
overflow_add-r c = omega (arith, c.requires (eq-eqb _ 1 c.if-n-eq-TR.true) c.if-n.false)

pub returns-then-n-eq-TR : goal.returns-then-n-eq-TR
returns-then-n-eq-TR c = rows_open _ _ _ c.if-n-eq-TR.true c.if-n.false (c.requires (eq-eqb _ 1 c.if-n-eq-TR.true) c.if-n.false)

pub returns : goal.returns
returns c = rows_other _ _ _ c.if-n-eq-TR.false
