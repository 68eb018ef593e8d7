-- `bound::value_len_at` meets its contract.
use mathlib.Core.Path.{sym, ◌∙◌}
use native.Mathlib.Omega.{arith}
use Rattle.sheet.proofs.DigitLaws.{column_at}
use Rattle.sheet.proofs.LinedLaws.{node_line, node_room}
use Rattle.visible_text.proofs.BoundLaws.{len_read}
use Rattle.visible_text.proofs.bound.value_len_at.Goals as goal

pub overflow_mul-width-3 : goal.overflow_mul-width-3
overflow_mul-width-3 c = let p = c.requires in omega (arith, node_room p.0 _ p.1, p.0.width)

pub overflow_add-width-3 : goal.overflow_add-width-3
overflow_add-width-3 c = let p = c.requires in omega (arith, node_room p.0 _ p.1, p.0.width)

pub overflow_add-width-4 : goal.overflow_add-width-4
overflow_add-width-4 c = let p = c.requires in omega (arith, node_room p.0 _ p.1, p.0.width)

pub digits_at-requires : goal.digits_at-requires
digits_at-requires c =
    let p = c.requires in
    (omega (arith, node_room p.0 _ p.1), p.0.width, column_at ((node_line p.0 _ p.1).number 6 (omega arith)) (omega arith))

pub returns : goal.returns
returns c = c.digits_at.ensures ∙ sym (len_read _ _ _ c.requires.1)
