-- `read::row_at` meets its contract.
use mathlib.Core.Path.{ap₂, ◌∙◌, sym}
use native.Mathlib.Omega.{arith}
use Rattle.sheet.specs.Lines.{row_of}
use Rattle.sheet.proofs.DigitLaws.{columns_from_law}
use Rattle.sheet.proofs.LayoutLaws.{row_there}
use Rattle.sheet.proofs.LinedLaws.{node_line, node_room}
use Rattle.sheet.proofs.read.row_at.Goals as goal

pub overflow_mul-at-3 : goal.overflow_mul-at-3
overflow_mul-at-3 c = omega (arith, node_room c.requires.0 c.args.i c.requires.1, c.requires.0.width)

pub overflow_add-at-3 : goal.overflow_add-at-3
overflow_add-at-3 c = omega (arith, node_room c.requires.0 c.args.i c.requires.1, c.requires.0.width)

pub overflow_add-middle : goal.overflow_add-middle
overflow_add-middle c = omega (arith, node_room c.requires.0 c.args.i c.requires.1, c.requires.0.width)

pub overflow_add-middle-2 : goal.overflow_add-middle-2
overflow_add-middle-2 c = omega (arith, node_room c.requires.0 c.args.i c.requires.1, c.requires.0.width)

pub overflow_add-middle-3 : goal.overflow_add-middle-3
overflow_add-middle-3 c = omega (arith, node_room c.requires.0 c.args.i c.requires.1, c.requires.0.width)

pub overflow_add-middle-4 : goal.overflow_add-middle-4
overflow_add-middle-4 c = omega (arith, node_room c.requires.0 c.args.i c.requires.1, c.requires.0.width)

pub quad_at-requires : goal.quad_at-requires
quad_at-requires c =
    let p = c.requires in
    let i = c.args.i in
    (omega (arith, node_room p.0 i p.1), p.0.width, columns_from_law 0 4 (node_line p.0 i p.1) (omega arith) (omega arith))

pub quad_at-requires-2 : goal.quad_at-requires-2
quad_at-requires-2 c =
    let p = c.requires in
    let i = c.args.i in
    (omega (arith, node_room p.0 i p.1), p.0.width, columns_from_law 4 4 (node_line p.0 i p.1) (omega arith) (omega arith))

pub returns : goal.returns
returns c =
    c.row_of.ensures ∙ ap₂ row_of c.quad_at.ensures c.quad_at-2.ensures ∙ sym (row_there c.args.s.now c.args.l c.args.i c.requires.1)
