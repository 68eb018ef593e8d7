-- `levzhada_first_child` meets its contract.
use mathlib.Core.Path.{◌∙◌}
use Rattle.levzhada.proofs.levzhada_first_child.Goals as goal

pub returns : goal.returns
returns c = c.to_answer.ensures ∙ c.first_child_of.ensures.1
