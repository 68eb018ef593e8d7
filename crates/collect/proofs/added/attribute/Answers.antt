-- `added::attribute` meets its contract.
use Rattle.collect.proofs.Attributes.{lines_fit, range_found}
use Rattle.collect.proofs.added.attribute.Goals as goal

pub find-requires : goal.find-requires
find-requires c = let p = c.requires in (p.accepted, lines_fit p c.row_at-r.ensures)

pub returns : goal.returns
returns c = range_found c.requires c.row_at-r.ensures c.args.name.now c.find.ensures
