-- `line::read_node_line` meets its contract.
use Rattle.std.specs.Prelude.{Some}
use mathlib.Core.Path.{sym, ap, ◌∙◌}
use Rattle.sheet.proofs.LineLaws.{node_no_end, node_first_bad, node_second_bad, node_numbers}
use Rattle.sheet.proofs.line.read_node_line.Goals as goal

pub returns-then-s-end-ne10 : goal.returns-then-s-end-ne10
returns-then-s-end-ne10 c = node_no_end _ _ _ c.if-s-end-ne10.true

pub returns-in_err-x : goal.returns-in_err-x
returns-in_err-x c = c.from_residual.ensures ∙ node_first_bad _ _ _ c.if-s-end-ne10.false (sym c.read_four.ensures ∙ c.in_err-x.was)

pub returns-in_err-y : goal.returns-in_err-y
returns-in_err-y c = c.from_residual-in_err-y.ensures ∙ node_second_bad _ _ _ c.if-s-end-ne10.false _ (sym c.read_four.ensures ∙ c.in_ok-x.was) (sym c.read_four-2.ensures ∙ c.in_err-y.was)

pub returns : goal.returns
returns c = ap Some c.row_of.ensures ∙ node_numbers _ _ _ c.if-s-end-ne10.false _ _ (sym c.read_four.ensures ∙ c.in_ok-x.was) (sym c.read_four-2.ensures ∙ c.in_ok-y.was)
