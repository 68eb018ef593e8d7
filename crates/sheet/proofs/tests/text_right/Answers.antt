-- `tests::text_right` meets its contract.
use mathlib.Core.Path.{sym, ◌∙◌}
use native.Mathlib.Omega.{arith}
use borrow.Author.Tests.{leb-true}
use Rattle.sheet.proofs.RowTests.{inside_fits, text_outside, text_inside, text_part}
use Rattle.sheet.proofs.tests.text_right.Goals as goal

pub returns-then-not-is_inside : goal.returns-then-not-is_inside
returns-then-not-is_inside c = text_outside _ _ _ (sym c.is_inside.ensures ∙ c.if-not-is_inside.true)

pub valid_part-requires : goal.valid_part-requires
valid_part-requires c = (c.requires c.if-whole.true, leb-true _ _ (sym c.is_inside.ensures ∙ c.if-not-is_inside.false))

pub returns-then-whole : goal.returns-then-whole
returns-then-whole c = c.valid_part.ensures ∙ text_inside _ _ _ (sym c.is_inside.ensures ∙ c.if-not-is_inside.false)

pub overflow_add-end : goal.overflow_add-end
overflow_add-end c = omega (arith, inside_fits c.args.pool.now _ _ (sym c.is_inside.ensures ∙ c.if-not-is_inside.false))

pub slice_bounds-valid-end : goal.slice_bounds-valid-end
slice_bounds-valid-end c = leb-true _ _ (sym c.is_inside.ensures ∙ c.if-not-is_inside.false)

pub returns : goal.returns
returns c = c.valid.ensures ∙ text_part _ _ _ (sym c.is_inside.ensures ∙ c.if-not-is_inside.false)
