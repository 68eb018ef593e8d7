-- `read::depth_at` meets its contract.
use native.Mathlib.Omega.{arith}
use mathlib.Core.Path.{sym, ap, ◌∙◌}
use Rattle.sheet.specs.declared.line.Row.{Row}
use Rattle.sheet.proofs.DigitLaws.{column_at}
use Rattle.sheet.proofs.LayoutLaws.{row_there}
use Rattle.sheet.proofs.LinedLaws.{node_line, node_room}
use Rattle.sheet.proofs.read.depth_at.Goals as goal

pub overflow_mul-width-3 : goal.overflow_mul-width-3
overflow_mul-width-3 c = omega (arith, node_room c.requires.0 c.args.i c.requires.1, c.requires.0.width)

pub overflow_add-width-3 : goal.overflow_add-width-3
overflow_add-width-3 c = omega (arith, node_room c.requires.0 c.args.i c.requires.1, c.requires.0.width)

pub digits_at-requires : goal.digits_at-requires
digits_at-requires c =
    let p = c.requires in
    let i = c.args.i in
    (omega (arith, node_room p.0 i p.1), p.0.width, column_at ((node_line p.0 i p.1).number 0 (omega arith)) (omega arith))

pub returns : goal.returns
returns c =
    c.digits_at.ensures ∙ ap (λ (r : Row). r.depth) (sym (row_there c.args.s.now c.args.l c.args.i c.requires.1))
