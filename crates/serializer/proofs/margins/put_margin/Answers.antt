-- `put_margin` meets its contract.
use Rattle.serializer.proofs.MarginLaws.{margin_none, margin_does, margin_ready}
use Rattle.serializer.proofs.margins.put_margin.Goals as goal

pub returns-then-size-eq0 : goal.returns-then-size-eq0
returns-then-size-eq0 c = margin_none _ _ _ _ _ _ c.if-size-eq0.true

pub separate-requires : goal.separate-requires
separate-requires c = margin_ready _ _ _ _ _ _ c.if-size-eq0.false c.strip_if.ensures c.requires

pub returns : goal.returns
returns c = margin_does _ _ _ _ _ _ c.if-size-eq0.false c.strip_if.ensures c.separate.ensures
