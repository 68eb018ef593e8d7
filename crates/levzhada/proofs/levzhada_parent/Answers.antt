-- `levzhada_parent` meets its contract.
use mathlib.Core.Path.{◌∙◌}
use Rattle.levzhada.proofs.levzhada_parent.Goals as goal

pub returns : goal.returns
returns c = c.to_answer.ensures ∙ c.parent_of.ensures.1
