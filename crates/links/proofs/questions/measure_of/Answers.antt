-- `questions::measure_of` meets its contract.
use Rattle.std.proofs.Common.{sym, ◌∙◌}
use Rattle.common.proofs.PassedOn.{passed_on}
use Rattle.tree.proofs.QuestionsLaws.{asked_known}
use Rattle.links.proofs.ClusterLaws.{answer_is, answer_of_element, answer_of_other}
use Rattle.links.proofs.questions.measure_of.Goals as goal

pub returns-in_err-l : goal.returns-in_err-l
returns-in_err-l c = answer_is _ _ _ (passed_on c.from_residual.result c.from_residual.ensures.1) (sym c.in_err-l.was ∙ c.ask.ensures)

pub returns-then-r-ne1 : goal.returns-then-r-ne1
returns-then-r-ne1 c = answer_of_other _ _ _ (sym c.in_ok-l.was ∙ c.ask.ensures) c.if-r-ne1.true

pub measure_row-requires : goal.measure_row-requires
measure_row-requires c =
    let known = asked_known _ _ (sym c.in_ok-l.was ∙ c.ask.ensures) in
    (known.0, known.1, rw known.2 at c.if-r-ne1.false)

pub returns : goal.returns
returns c = answer_of_element _ _ _ (sym c.in_ok-l.was ∙ c.ask.ensures) c.if-r-ne1.false c.measure_row.ensures
