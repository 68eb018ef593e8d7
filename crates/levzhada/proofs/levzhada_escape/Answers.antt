-- `levzhada_escape` meets its contract.
use mathlib.Core.Path.{◌∙◌}
use Rattle.levzhada.proofs.levzhada_escape.Goals as goal

pub returns : goal.returns
returns c = record { answer = c.to_answer.ensures ∙ c.escape.ensures.answer; buffer = c.escape.ensures.buffer }
