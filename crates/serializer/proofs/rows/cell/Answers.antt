-- `cell` meets its contract.
use mathlib.Core.Path.{sym}
use Rattle.serializer.proofs.RowLaws.{cell_is, cell_other, rises_in_row}
use Rattle.serializer.proofs.WorksLaws.{able_by, able_first, able_out, able_then, works_none, works_then, works_by}
use Rattle.serializer.proofs.rows.cell.Goals as goal

pub margin-a-requires : goal.margin-a-requires
margin-a-requires c = rw c.collapses.ensures (able_out (able_first (rises_in_row _) (able_by c.requires.able (λ under S h. cell_is _ _ c.if-n-eq-CELL.true S))))

pub in_row-requires : goal.in_row-requires
in_row-requires c =
    let r = c.requires in
    record { numbering = r.numbering; able = able_then ((rw c.collapses.ensures at c.margin-a.ensures).at _ _) (able_by r.able (λ under S h. cell_is _ _ c.if-n-eq-CELL.true S)) }

pub returns-then-n-eq-CELL : goal.returns-then-n-eq-CELL
returns-then-n-eq-CELL c =
    record { at = λ numbering. works_by (works_then ((rw c.collapses.ensures at c.margin-a.ensures).at _ _) (c.in_row.ensures.at _)) (λ under S h. sym (cell_is _ _ c.if-n-eq-CELL.true S)) }

pub returns : goal.returns
returns c = record { at = λ numbering. works_by works_none (λ under S h. sym (cell_other _ _ c.if-n-eq-CELL.false S)) }
