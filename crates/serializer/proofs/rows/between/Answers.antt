-- `between` meets its contract.
use Rattle.common.specs.Bytes.{codes}
use Rattle.serializer.proofs.RowLaws.{between_empty, between_blank, between_space, between_space_ready, between_tabs, between_tabs_ready}
use Rattle.serializer.proofs.rows.between.Goals as goal

pub returns-then-w-eq0 : goal.returns-then-w-eq0
returns-then-w-eq0 c = between_empty _ _ _ _ c.if-off.true c.if-w-eq0.true

pub returns-then-w : goal.returns-then-w
returns-then-w c = between_blank _ _ _ _ c.if-off.true c.if-w-eq0.false c.if-w.true

pub push-requires : goal.push-requires
push-requires c = between_space_ready _ _ _ _ c.if-off.true c.if-w-eq0.false c.if-w.false c.requires

pub returns-then-off : goal.returns-then-off
returns-then-off c = between_space _ _ _ _ c.if-off.true c.if-w-eq0.false c.if-w.false c.push.ensures

pub put-requires : goal.put-requires
unfolding codes
put-requires c = between_tabs_ready _ _ _ _ c.if-off.false c.requires

pub returns : goal.returns
unfolding codes
returns c = between_tabs _ _ _ _ c.if-off.false c.put.ensures
