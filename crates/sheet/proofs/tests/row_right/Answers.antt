-- `tests::row_right` meets its contract.
use mathlib.Core.Path.{sym, ◌∙◌}
use Rattle.sheet.proofs.RowTests.{row_kind_wrong, row_tree_wrong, row_texts_law}
use Rattle.sheet.proofs.tests.row_right.Goals as goal

pub returns-then-not-kind_right : goal.returns-then-not-kind_right
returns-then-not-kind_right c = row_kind_wrong _ _ _ _ (sym c.kind_right.ensures ∙ c.if-not-kind_right.true)

pub returns-then-not-tree_right : goal.returns-then-not-tree_right
returns-then-not-tree_right c = row_tree_wrong _ _ _ _ (sym c.kind_right.ensures ∙ c.if-not-kind_right.false) (sym c.tree_right.ensures ∙ c.if-not-tree_right.true)

pub returns : goal.returns
returns c = c.texts_right.ensures ∙ row_texts_law _ _ _ _ (sym c.kind_right.ensures ∙ c.if-not-kind_right.false) (sym c.tree_right.ensures ∙ c.if-not-tree_right.false)
