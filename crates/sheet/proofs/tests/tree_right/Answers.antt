-- `tests::tree_right` meets its contract.
use mathlib.Core.Path.{◌∙◌}
use Rattle.sheet.proofs.RowTests.{tree_first, tree_later}
use Rattle.sheet.proofs.tests.tree_right.Goals as goal

pub returns-then-i-eq0 : goal.returns-then-i-eq0
returns-then-i-eq0 c = c.body_right.ensures ∙ tree_first _ _ _ _ c.if-i-eq0.true

pub returns : goal.returns
returns c = c.later_right.ensures ∙ tree_later _ _ _ _ c.if-i-eq0.false
