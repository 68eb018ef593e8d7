-- `levzhada_visible_text` meets its contract.
use mathlib.Core.Path.{ap, ◌∙◌}
use Rattle.visible_text.specs.Answers.{numbers}
use Rattle.levzhada.proofs.levzhada_visible_text.Goals as goal

pub returns : goal.returns
returns c =
    let x = c.visible_text.ensures in
    record { answer = c.to_answer.ensures ∙ ap numbers x.answer; buffer = x.buffer }
