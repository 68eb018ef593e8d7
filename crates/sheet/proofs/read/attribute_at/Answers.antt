-- `read::attribute_at` meets its contract.
use mathlib.Core.Path.{ap, ◌∙◌, sym}
use native.Mathlib.Omega.{arith}
use Rattle.sheet.specs.Lines.{attribute_of}
use Rattle.sheet.proofs.DigitLaws.{columns_from_law}
use Rattle.sheet.proofs.LayoutLaws.{attribute_there}
use Rattle.sheet.proofs.LinedLaws.{attribute_line, attribute_room}
use Rattle.sheet.proofs.read.attribute_at.Goals as goal

pub overflow_mul-at-5 : goal.overflow_mul-at-5
overflow_mul-at-5 c = omega (arith, attribute_room c.requires.0 c.args.j c.requires.1, c.requires.0.width)

pub overflow_add-at-5 : goal.overflow_add-at-5
overflow_add-at-5 c = omega (arith, attribute_room c.requires.0 c.args.j c.requires.1, c.requires.0.width)

pub quad_at-requires : goal.quad_at-requires
quad_at-requires c =
    let p = c.requires in
    let j = c.args.j in
    (omega (arith, attribute_room p.0 j p.1), p.0.width, columns_from_law 0 4 (attribute_line p.0 j p.1) (omega arith) (omega arith))

pub returns : goal.returns
returns c =
    c.attribute_of.ensures ∙ ap attribute_of c.quad_at.ensures ∙ sym (attribute_there c.args.s.now c.args.l c.args.j c.requires.1)
