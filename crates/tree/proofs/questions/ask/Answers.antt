-- `questions::ask` meets its contract.
use mathlib.Core.Path.{sym, ◌∙◌}
use lib.Dec.{lit≤}
use Rattle.common.proofs.PassedOn.{passed_on}
use Rattle.sheet.proofs.Acceptance.{accepts}
use Rattle.tree.proofs.QuestionsLaws.{asked_of_law, asked_no_row, asked_refused}
use Rattle.tree.proofs.questions.ask.Goals as goal

pub returns-in_err-l : goal.returns-in_err-l
returns-in_err-l c = passed_on c.from_residual.result c.from_residual.ensures.1 ∙ asked_refused _ _ (sym c.in_err-l.was ∙ c.check.ensures.answer)

pub find_row-requires : goal.find_row-requires
find_row-requires c = (accepts (lit≤ tt) (sym c.check.ensures.answer ∙ c.in_ok-l.was)).1

pub returns-in_default : goal.returns-in_default
returns-in_default c = asked_no_row _ _ (sym c.in_ok-l.was ∙ c.check.ensures.answer) (sym c.in_default.is ∙ c.find_row.ensures)

pub returns : goal.returns
returns c = asked_of_law _ _ (sym c.in_ok-l.was ∙ c.check.ensures.answer) (sym c.in-Some.is ∙ c.find_row.ensures)
