-- `tests::body_right` meets its contract.
use mathlib.Core.Path.{sym, ◌∙◌}
use native.Mathlib.Omega.{arith}
use borrow.Author.Tests.{leb-true}
use Rattle.common.specs.Bytes.{codes}
use Rattle.sheet.proofs.RowTests.{inside_fits, body_kind, body_depth, body_outside, body_name}
use Rattle.sheet.proofs.tests.body_right.Goals as goal

pub returns-then-r-ne1 : goal.returns-then-r-ne1
returns-then-r-ne1 c = body_kind _ _ c.if-r-ne1.true

pub returns-then-r-ne0 : goal.returns-then-r-ne0
returns-then-r-ne0 c = body_depth _ _ c.if-r-ne1.false c.if-r-ne0.true

pub returns-then-not-is_inside : goal.returns-then-not-is_inside
returns-then-not-is_inside c = body_outside _ _ c.if-r-ne1.false c.if-r-ne0.false (sym c.is_inside.ensures ∙ c.if-not-is_inside.true)

pub overflow_add-end : goal.overflow_add-end
overflow_add-end c = omega (arith, inside_fits c.args.pool.now _ _ (sym c.is_inside.ensures ∙ c.if-not-is_inside.false))

pub slice_bounds-same-end : goal.slice_bounds-same-end
slice_bounds-same-end c = leb-true _ _ (sym c.is_inside.ensures ∙ c.if-not-is_inside.false)

pub returns : goal.returns
unfolding codes
returns c = c.same.ensures ∙ body_name _ _ c.if-r-ne1.false c.if-r-ne0.false (sym c.is_inside.ensures ∙ c.if-not-is_inside.false)
