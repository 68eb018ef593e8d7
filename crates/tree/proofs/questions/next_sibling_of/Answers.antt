-- `questions::next_sibling_of` meets its contract.
use Rattle.std.specs.Prelude.{Ok}
use mathlib.Core.Path.{sym, ap, ◌∙◌}
use Rattle.common.proofs.PassedOn.{passed_on}
use Rattle.tree.specs.Rows.{next_sibling_of}
use Rattle.tree.proofs.QuestionsLaws.{asked_known, relative_is}
use Rattle.tree.proofs.questions.next_sibling_of.Goals as goal

pub returns-in_err-l : goal.returns-in_err-l
returns-in_err-l c = relative_is next_sibling_of _ _ (passed_on c.from_residual.result c.from_residual.ensures.1) (sym c.in_err-l.was ∙ c.ask.ensures)

pub next_sibling-requires : goal.next_sibling-requires
next_sibling-requires c = let known = asked_known _ _ (sym c.in_ok-l.was ∙ c.ask.ensures) in (known.0, known.1)

pub returns : goal.returns
returns c = relative_is next_sibling_of _ _ (ap Ok c.next_sibling.ensures) (sym c.in_ok-l.was ∙ c.ask.ensures)
