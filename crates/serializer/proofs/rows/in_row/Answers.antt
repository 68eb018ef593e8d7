-- `in_row` meets its contract.
use native.Mathlib.Omega.{arith}
use Rattle.serializer.proofs.RowLaws.{in_row_none, in_row_first, in_row_ready, in_row_more}
use Rattle.serializer.proofs.StandsLaws.{rows_long}
use Rattle.serializer.proofs.rows.in_row.Goals as goal

pub returns-then-s-eq0 : goal.returns-then-s-eq0
returns-then-s-eq0 c = record { at = λ numbering. in_row_none _ c.if-s-eq0.true }

pub bounds-cells-at : goal.bounds-cells-at
bounds-cells-at c = omega (arith, rows_long c.requires.able)

pub between-w-requires : goal.between-w-requires
between-w-requires c = in_row_ready _ c.if-s-eq0.false c.if-cells-at.true c.requires.able

pub returns-then-cells-at : goal.returns-then-cells-at
returns-then-cells-at c = record { at = λ numbering. in_row_more _ c.if-s-eq0.false c.if-cells-at.true c.between-w.ensures }

pub bounds-cells-at-2 : goal.bounds-cells-at-2
bounds-cells-at-2 c = omega (arith, rows_long c.requires.able)

pub returns : goal.returns
returns c = record { at = λ numbering. in_row_first _ c.if-s-eq0.false c.if-cells-at.false }
