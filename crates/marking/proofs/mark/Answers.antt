-- `mark` meets its contract.
use mathlib.Core.Path.{sym, ◌∙◌}
use Rattle.common.proofs.PassedOn.{passed_on}
use Rattle.marking.proofs.AnswerLaws.{marked_refused, marked_sheet}
use Rattle.marking.proofs.mark.Goals as goal

pub returns-in_err-l : goal.returns-in_err-l
returns-in_err-l c =
    let q = marked_refused _ _ _ (sym c.check.ensures.answer ∙ c.in_err-l.was) in
    let r = passed_on c.from_residual.result c.from_residual.ensures.1 in
    rw r (record { answer = q.0; sheet = q.1; said = q.2 })

pub returns : goal.returns
returns c =
    let e = sym c.check.ensures.answer ∙ c.in_ok-l.was in
    let q = marked_sheet _ _ _ e (c.mark_rows.ensures.count, c.mark_rows.ensures.sheet) in
    record { answer = q.0; sheet = q.1; said = q.2 }
