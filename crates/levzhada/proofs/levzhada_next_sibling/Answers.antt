-- `levzhada_next_sibling` meets its contract.
use mathlib.Core.Path.{◌∙◌}
use Rattle.levzhada.proofs.levzhada_next_sibling.Goals as goal

pub returns : goal.returns
returns c = c.to_answer.ensures ∙ c.next_sibling_of.ensures.1
