-- `put_link_tag` meets its contract.
use Rattle.common.specs.Bytes.{codes}
use Rattle.collect.proofs.added.put_link_tag.Goals as goal

pub say-requires : goal.say-requires
unfolding codes
say-requires c = rw c.if-end.true at c.requires

pub returns-then-end : goal.returns-then-end
unfolding codes
returns-then-end c = rw c.if-end.true c.say.ensures

pub put_between-requires : goal.put_between-requires
unfolding codes
put_between-requires c = rw c.if-end.false at c.requires

pub returns : goal.returns
unfolding codes
returns c = rw c.if-end.false c.put_between.ensures
