-- `open` meets its contract.
use Rattle.writing.proofs.BeginLaws.{open_nested, open_limits, open_able, open_begins}
use Rattle.writing.proofs.open.Goals as goal

pub node_of-n-requires : goal.node_of-n-requires
node_of-n-requires c = open_nested c.requires.0

pub begin-b-requires : goal.begin-b-requires
begin-b-requires c = let r = c.requires in record { limits = open_limits r.0 c.node_of-n.ensures; able = open_able r.0 c.node_of-n.ensures r.1 }

pub returns : goal.returns
returns c = let r = c.requires in open_begins r.0 c.node_of-n.ensures r.1 c.begin-b.ensures
