-- `levzhada_matches` meets its contract.
use mathlib.Core.Path.{◌∙◌}
use Rattle.levzhada.proofs.levzhada_matches.Goals as goal

pub returns : goal.returns
returns c = c.to_answer.ensures ∙ c.matches.ensures.1
