-- `levzhada_collapse` meets its contract.
use mathlib.Core.Path.{◌∙◌}
use Rattle.levzhada.proofs.levzhada_collapse.Goals as goal

pub returns : goal.returns
returns c = record { answer = c.to_answer.ensures ∙ c.collapse.ensures.answer; buffer = c.collapse.ensures.buffer }
