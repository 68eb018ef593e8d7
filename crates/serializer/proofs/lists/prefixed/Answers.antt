-- `prefixed` meets its contract.
use Rattle.serializer.proofs.lists.prefixed.Goals as goal

pub returns : goal.returns
returns c = rw c.one-bullet.ensures
