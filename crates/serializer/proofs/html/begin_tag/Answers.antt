-- `begin_tag` meets its contract.
use Rattle.common.specs.Bytes.{codes}
use Rattle.serializer.proofs.html.begin_tag.Goals as goal

pub put-requires : goal.put-requires
unfolding codes
put-requires c = rw c.if-end.true at c.requires

pub returns-then-end : goal.returns-then-end
unfolding codes
returns-then-end c = rw c.if-end.true c.put.ensures

pub put-requires-2 : goal.put-requires-2
unfolding codes
put-requires-2 c = rw c.if-end.false at c.requires

pub returns : goal.returns
unfolding codes
returns c = rw c.if-end.false c.put-2.ensures
