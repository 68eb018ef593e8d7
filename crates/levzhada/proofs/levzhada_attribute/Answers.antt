-- `levzhada_attribute` meets its contract.
use mathlib.Core.Path.{ap, ◌∙◌}
use Rattle.numbers.specs.Values.{range_of}
use Rattle.levzhada.proofs.levzhada_attribute.Goals as goal

pub returns : goal.returns
returns c = c.from.ensures ∙ ap range_of c.attribute_of.ensures.0
