-- `in_place::number_at` meets its contract.
use mathlib.Core.Path.{sym, ◌∙◌}
use native.Mathlib.Omega.{arith}
use Rattle.sheet.proofs.DigitLaws.{column_at}
use Rattle.sheet.proofs.LinedLaws.{node_line}
use Rattle.sheet_form.proofs.NumberBytes.{number_place, number_read}
use Rattle.sheet_form.proofs.in_place.number_at.Goals as goal

pub digits_at-requires : goal.digits_at-requires
digits_at-requires c =
    let p = c.requires in
    (number_place p.0 _ _ p.1 p.2, p.0.width, column_at ((node_line p.0 _ p.1).number _ p.2) (omega arith))

pub returns : goal.returns
returns c = let p = c.requires in c.digits_at.ensures ∙ sym (number_read _ _ _ _ p.1 p.2)
