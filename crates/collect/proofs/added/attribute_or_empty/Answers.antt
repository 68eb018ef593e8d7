-- `added::attribute_or_empty` meets its contract.
use mathlib.Core.Path.{◌∙◌}
use Rattle.collect.proofs.Attributes.{range_inside, attr_found}
use Rattle.collect.proofs.added.attribute_or_empty.Goals as goal

pub or_empty-requires : goal.or_empty-requires
or_empty-requires c = (c.requires.accepted, range_inside c.requires c.args.name.now c.attribute.ensures)

pub returns : goal.returns
returns c = c.or_empty.ensures ∙ attr_found c.requires c.args.name.now c.attribute.ensures
