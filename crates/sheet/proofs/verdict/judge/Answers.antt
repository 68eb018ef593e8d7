-- `verdict::judge` meets its contract.
use mathlib.Core.Path.{sym, ◌∙◌}
use native.Mathlib.Omega.{arith}
use Rattle.sheet.proofs.Judging.{nodes_noted, nodes_bad_below, judged_node_format}
use Rattle.sheet.proofs.verdict.judge.Goals as goal

pub overflow_add-result : goal.overflow_add-result
overflow_add-result c = omega (arith, nodes_bad_below _ _ (sym c.read_nodes.ensures ∙ c.in-Err.is), c.requires.0.nodes)

pub judge_attributes-requires : goal.judge_attributes-requires
judge_attributes-requires c = let x = nodes_noted _ _ (sym c.read_nodes.ensures ∙ c.in-Ok.is) in (c.requires.0, c.requires.1, x.0, x.1)

pub returns-in-Err : goal.returns-in-Err
returns-in-Err c = judged_node_format _ _ (sym c.read_nodes.ensures ∙ c.in-Err.is)
