-- `content::add_row` meets its contract.
use native.Mathlib.Omega.{arith}
use Rattle.tree.proofs.PageLaws.{value_fits}
use Rattle.tree.proofs.TextLengths.{squeezed_other, squeezed_text, squeezed_fits}
use Rattle.tree.proofs.content.add_row.Goals as goal

pub row_at-r-requires : goal.row_at-r-requires
row_at-r-requires c = (c.requires.0.lined, c.requires.1)

pub returns-then-r-ne3 : goal.returns-then-r-ne3
returns-then-r-ne3 c = squeezed_other _ _ _ c.row_at-r.ensures _ c.if-r-ne3.true

pub part-requires : goal.part-requires
part-requires c = (c.requires.0.lined, value_fits _ _ _ c.row_at-r.ensures c.requires.0 c.requires.1)

pub overflow_add-result : goal.overflow_add-result
overflow_add-result c = omega (arith, squeezed_fits _ _ _ c.row_at-r.ensures c.args.p c.collapsed_from-q.result c.requires.0 c.requires.1 c.if-r-ne3.false c.part.ensures c.collapsed_from-q.ensures.0, c.requires.2)

pub returns : goal.returns
returns c = squeezed_text _ _ _ c.row_at-r.ensures _ c.collapsed_from-q.result c.if-r-ne3.false c.part.ensures c.collapsed_from-q.ensures
