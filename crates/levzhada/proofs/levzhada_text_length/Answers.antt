-- `levzhada_text_length` meets its contract.
use mathlib.Core.Path.{◌∙◌}
use Rattle.levzhada.proofs.levzhada_text_length.Goals as goal

pub returns : goal.returns
returns c = c.to_answer.ensures ∙ c.text_length_of.ensures.1
