-- `visible_text` meets its contract.
use mathlib.Core.Path.{refl, sym, ◌∙◌}
use Rattle.common.proofs.PassedOn.{passed_on}
use Rattle.tree.proofs.QuestionsLaws.{asked_known}
use Rattle.visible_text.proofs.AnswerLaws.{answered}
use Rattle.visible_text.proofs.visible_text.Goals as goal

pub returns-in_err-l : goal.returns-in_err-l
returns-in_err-l c =
    let all = answered _ _ _ (sym c.in_err-l.was ∙ c.ask.ensures) (passed_on c.from_residual.result c.from_residual.ensures.1, refl) in
    record { answer = all.0; buffer = all.1 }

pub visible_in-requires : goal.visible_in-requires
visible_in-requires c =
    let k = asked_known _ _ (sym c.in_ok-l.was ∙ c.ask.ensures) in
    (k.0, k.1)

pub returns : goal.returns
returns c =
    let all = answered _ _ _ (sym c.in_ok-l.was ∙ c.ask.ensures) (c.visible_in.ensures.answer, c.visible_in.ensures.buffer) in
    record { answer = all.0; buffer = all.1 }
