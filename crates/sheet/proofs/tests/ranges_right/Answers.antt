-- `tests::ranges_right` meets its contract.
use mathlib.Core.Path.{sym, ◌∙◌}
use Rattle.sheet.proofs.tests.ranges_right.Goals as goal

pub returns-then-is_inside : goal.returns-then-is_inside
returns-then-is_inside c = c.is_inside-then-is_inside.ensures ∙ rw (sym c.is_inside.ensures ∙ c.if-is_inside.true)

pub returns : goal.returns
returns c = rw (sym c.is_inside.ensures ∙ c.if-is_inside.false)
