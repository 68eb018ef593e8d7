-- `put_prefix` meets its contract.
use Rattle.common.specs.Bytes.{codes}
use Rattle.writer.proofs.DoesLaws.{ready_same, does_same, does_nothing, does_append, ready_left, ready_right}
use Rattle.serializer.proofs.TextLaws.{prefix_none, prefix_bullet, prefix_number}
use Rattle.serializer.proofs.texts.put_prefix.Goals as goal

pub returns-then-prefix-eq0 : goal.returns-then-prefix-eq0
returns-then-prefix-eq0 c = does_nothing (prefix_none _ c.if-prefix-eq0.true)

pub put-requires : goal.put-requires
put-requires c = ready_same (prefix_bullet _ c.if-prefix-eq1.true) c.requires

pub returns-then-prefix-eq1 : goal.returns-then-prefix-eq1
returns-then-prefix-eq1 c = does_same (prefix_bullet _ c.if-prefix-eq1.true) c.put.ensures

pub put_number-q-requires : goal.put_number-q-requires
put_number-q-requires c = ready_left _ _ (ready_same (prefix_number _ c.if-prefix-eq0.false c.if-prefix-eq1.false) c.requires)

pub put-requires-2 : goal.put-requires-2
unfolding codes
put-requires-2 c = ready_right _ _ c.put_number-q.ensures (ready_same (prefix_number _ c.if-prefix-eq0.false c.if-prefix-eq1.false) c.requires)

pub returns : goal.returns
unfolding codes
returns c = does_same (prefix_number _ c.if-prefix-eq0.false c.if-prefix-eq1.false) (does_append _ _ c.put_number-q.ensures c.put-2.ensures)
