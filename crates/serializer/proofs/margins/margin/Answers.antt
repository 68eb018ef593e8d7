-- `margin` meets its contract.
use Rattle.serializer.proofs.MarginLaws.{margin_able, margin_works}
use Rattle.serializer.proofs.margins.margin.Goals as goal

pub put_margin-w-requires : goal.put_margin-w-requires
put_margin-w-requires c = margin_able _ _ c.requires

pub returns : goal.returns
returns c = margin_works _ _ c.put_margin-w.ensures
