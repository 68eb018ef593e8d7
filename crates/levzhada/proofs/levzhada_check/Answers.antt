-- `levzhada_check` meets its contract.
use mathlib.Core.Path.{◌∙◌}
use Rattle.levzhada.proofs.levzhada_check.Goals as goal

pub returns : goal.returns
returns c = c.to_answer.ensures ∙ c.check.ensures.said
