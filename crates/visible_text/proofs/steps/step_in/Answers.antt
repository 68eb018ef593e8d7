-- `step_in` meets its contract.
use mathlib.Core.Path.{sym, ap, ◌∙◌}
use Rattle.tree.proofs.PageLaws.{is_element, name_is}
use Rattle.visible_text.specs.Inner.{step_of}
use Rattle.visible_text.proofs.RowLaws.{is_text, is_comment}
use Rattle.visible_text.proofs.StepLaws.{step_element, step_text, step_comment}
use Rattle.visible_text.proofs.steps.step_in.Goals as goal

pub returns-then-r-eq1 : goal.returns-then-r-eq1
returns-then-r-eq1 c = λ i e. c.step_of.ensures ∙ ap step_of (c.part.ensures ∙ sym (name_is _ _ i e)) ∙ sym
    (step_element _ i (is_element _ _ i e c.if-r-eq1.true))

pub returns-then-r-eq3 : goal.returns-then-r-eq3
returns-then-r-eq3 c = λ i e. sym (step_text _ i (is_text _ _ i e c.if-r-eq3.true))

pub returns : goal.returns
returns c = λ i e. sym (step_comment _ i (is_comment _ _ i e c.if-r-eq1.false c.if-r-eq3.false))
