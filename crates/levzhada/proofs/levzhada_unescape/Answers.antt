-- `levzhada_unescape` meets its contract.
use mathlib.Core.Path.{ap, ◌∙◌}
use Rattle.unescape.specs.Answers.{numbers}
use Rattle.levzhada.proofs.levzhada_unescape.Goals as goal

pub returns : goal.returns
returns c =
    let x = c.unescape.ensures in
    record { answer = c.to_answer.ensures ∙ ap numbers x.answer; buffer = x.buffer }
