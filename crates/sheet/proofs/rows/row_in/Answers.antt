-- `rows::row_in` meets its contract.
use mathlib.Core.Path.{sym, ◌∙◌}
use native.Mathlib.Omega.{arith}
use Rattle.sheet.proofs.Accepting.{row_in_no_line, row_in_wrong, row_in_many, row_in_right}
use Rattle.sheet.proofs.LayoutLaws.{node_fits, pool_part, pool_whole}
use Rattle.sheet.proofs.rows.row_in.Goals as goal

pub read_node_line-requires : goal.read_node_line-requires
read_node_line-requires c = let p = c.requires in (omega (arith, p.i_lt_nodes.1, node_fits p.start_value.1 _ p.i_lt_nodes.0), omega (arith, p.start_value.1.width))

pub returns-in_err-r : goal.returns-in_err-r
returns-in_err-r c = c.from_residual.ensures ∙ row_in_no_line _ _ _ _ _ _ (sym c.read_node_line.ensures ∙ c.in_err-r.was)

pub slice_bounds-row_right-start : goal.slice_bounds-row_right-start
slice_bounds-row_right-start c = let p = c.requires in omega (arith, p.start_value.0, p.start_value.1.size)

pub row_right-requires : goal.row_right-requires
row_right-requires c = let p = c.requires in pool_whole _ c.args.l p.start_value.0 p.start_value.2

pub returns-then-not-row_right : goal.returns-then-not-row_right
returns-then-not-row_right c = row_in_wrong _ _ _ _ _ _ (sym c.read_node_line.ensures ∙ c.in_ok-r.was) (pool_part _ c.args.l c.requires.start_value.0) (sym c.row_right.ensures ∙ c.if-not-row_right.true)

pub returns-then-r-l : goal.returns-then-r-l
returns-then-r-l c = row_in_many _ _ _ _ _ _ (sym c.read_node_line.ensures ∙ c.in_ok-r.was) (pool_part _ c.args.l c.requires.start_value.0) (sym c.row_right.ensures ∙ c.if-not-row_right.false) (omega (arith, c.if-r-l.true, c.requires.i_lt_nodes.2))

pub returns : goal.returns
returns c = row_in_right _ _ _ _ _ _ (sym c.read_node_line.ensures ∙ c.in_ok-r.was) (pool_part _ c.args.l c.requires.start_value.0) (sym c.row_right.ensures ∙ c.if-not-row_right.false) (omega (arith, c.if-r-l.false, c.requires.i_lt_nodes.2))
