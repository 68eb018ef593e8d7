-- `verdict::judge_attributes` meets its contract.
use mathlib.Core.Path.{sym, ◌∙◌}
use native.Mathlib.Omega.{arith}
use Rattle.sheet.proofs.Judging.{attributes_noted, attributes_bad_below, judged_attribute_format}
use Rattle.sheet.proofs.verdict.judge_attributes.Goals as goal

pub overflow_add-result : goal.overflow_add-result
overflow_add-result c = omega (arith, attributes_bad_below _ _ (sym c.read_attributes.ensures ∙ c.in-Err.is), c.requires.0.nodes, c.requires.0.attributes)

pub overflow_add-result-in-Err : goal.overflow_add-result-in-Err
overflow_add-result-in-Err c = omega (arith, attributes_bad_below _ _ (sym c.read_attributes.ensures ∙ c.in-Err.is), c.requires.0.nodes, c.requires.0.attributes)

pub decide-requires : goal.decide-requires
decide-requires c =
    let x = attributes_noted _ _ (sym c.read_attributes.ensures ∙ c.in-Ok.is) in
    (c.requires.0, record { of_nodes = c.requires.2; of_attributes = x.0 }, c.requires.3, x.1)

pub returns-in-Err : goal.returns-in-Err
returns-in-Err c = judged_attribute_format _ _ c.requires.2 (sym c.read_attributes.ensures ∙ c.in-Err.is)
