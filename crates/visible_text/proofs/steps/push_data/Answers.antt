-- `push_data` meets its contract.
use mathlib.Core.Path.{sym, ◌∙◌}
use Rattle.tree.proofs.PageLaws.{value_fits, data_is, data_none}
use Rattle.writer.proofs.DoesLaws.{does_nothing, does_same, ready_same}
use Rattle.visible_text.proofs.steps.push_data.Goals as goal

pub returns-then-r-ne3 : goal.returns-then-r-ne3
returns-then-r-ne3 c = does_nothing (data_none _ _ _ c.row_at-r.ensures c.if-r-ne3.true)

pub part-requires : goal.part-requires
part-requires c = let p = c.requires.accepted in
    (p.0.lined, value_fits _ _ _ c.row_at-r.ensures p.0 p.1)

pub push_str-requires : goal.push_str-requires
push_str-requires c =
    ready_same (data_is _ _ _ c.row_at-r.ensures c.if-r-ne3.false ∙ sym
    c.part.ensures)
    c.requires.ready_by

pub returns : goal.returns
returns c =
    does_same (data_is _ _ _ c.row_at-r.ensures
    c.if-r-ne3.false ∙ sym c.part.ensures)
    c.push_str.ensures
