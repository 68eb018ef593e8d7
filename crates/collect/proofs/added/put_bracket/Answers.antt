-- `put_bracket` meets its contract.
use Rattle.common.specs.Bytes.{codes}
use Rattle.collect.proofs.added.put_bracket.Goals as goal

pub say-requires : goal.say-requires
unfolding codes
say-requires c = rw c.if-end.true at c.requires

pub returns-then-end : goal.returns-then-end
unfolding codes
returns-then-end c = rw c.if-end.true c.say.ensures

pub say-requires-2 : goal.say-requires-2
unfolding codes
say-requires-2 c = rw c.if-end.false at c.requires

pub returns : goal.returns
unfolding codes
returns c = rw c.if-end.false c.say-2.ensures
