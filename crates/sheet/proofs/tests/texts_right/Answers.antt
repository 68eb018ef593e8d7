-- `tests::texts_right` meets its contract.
use mathlib.Core.Path.{sym, ◌∙◌}
use Rattle.sheet.proofs.tests.texts_right.Goals as goal

pub returns-then-text_right : goal.returns-then-text_right
returns-then-text_right c = c.text_right-then-text_right.ensures ∙ rw (sym c.text_right.ensures ∙ c.if-text_right.true)

pub returns : goal.returns
returns c = rw (sym c.text_right.ensures ∙ c.if-text_right.false)
