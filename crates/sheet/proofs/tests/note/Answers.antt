-- `tests::note` meets its contract.
use mathlib.Core.Path.{sym, ◌∙◌}
use Rattle.sheet.proofs.FirstWrong.{note_new}
use Rattle.sheet.proofs.tests.note.Goals as goal

pub returns : goal.returns
returns c = note_new _ _ _ c.if-right.false (sym c.is_some.ensures ∙ c.if-is_some.false)
