-- `verdict::kind_at` meets its contract.
use native.Mathlib.Omega.{arith}
use mathlib.Core.Path.{sym, ap, ◌∙◌}
use Rattle.sheet.specs.declared.line.Row.{Row}
use Rattle.sheet.proofs.LayoutLaws.{node_fits, row_there}
use Rattle.sheet.proofs.verdict.kind_at.Goals as goal

pub overflow_mul-at-3 : goal.overflow_mul-at-3
overflow_mul-at-3 c = omega (arith, node_fits c.requires.0 c.args.i c.requires.1)

pub overflow_add-at-3 : goal.overflow_add-at-3
overflow_add-at-3 c = omega (arith, node_fits c.requires.0 c.args.i c.requires.1)

pub overflow_add-at-4 : goal.overflow_add-at-4
overflow_add-at-4 c = omega (arith, node_fits c.requires.0 c.args.i c.requires.1)

pub number_at-requires : goal.number_at-requires
number_at-requires c = (omega (arith, node_fits c.requires.0 c.args.i c.requires.1), omega (arith, c.requires.0.width))

pub returns : goal.returns
returns c =
    c.number_at.ensures ∙ ap (λ (r : Row). r.kind) (sym (row_there c.args.s.now c.args.l c.args.i c.requires.1))
