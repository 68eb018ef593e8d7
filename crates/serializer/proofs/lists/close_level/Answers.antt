-- `close_level` meets its contract.
use Rattle.serializer.proofs.lists.close_level.Goals as goal

pub returns : goal.returns
returns c = rw (c.prefixed-r.ensures, c.less_one.ensures)
