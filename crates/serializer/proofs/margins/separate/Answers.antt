-- `separate` meets its contract.
use Rattle.serializer.proofs.MarginLaws.{separated_none, separated_does, separated_ready}
use Rattle.serializer.proofs.margins.separate.Goals as goal

pub returns-then-w-eq0 : goal.returns-then-w-eq0
returns-then-w-eq0 c = separated_none _ _ _ _ _ c.if-w-eq0.true

pub push-requires : goal.push-requires
push-requires c = rw c.if-off.true at (separated_ready _ _ _ _ _ c.if-w-eq0.false c.requires)

pub returns-then-off : goal.returns-then-off
returns-then-off c = separated_does _ _ _ _ _ c.if-w-eq0.false (rw c.if-off.true c.push.ensures)

pub pad-requires : goal.pad-requires
pad-requires c = rw c.if-off.false at (separated_ready _ _ _ _ _ c.if-w-eq0.false c.requires)

pub returns : goal.returns
returns c = separated_does _ _ _ _ _ c.if-w-eq0.false (rw c.if-off.false c.pad.ensures)
