-- `put_entity` meets its contract.
use mathlib.Core.Path.{◌∙◌}
use Rattle.common.proofs.Choice.{chosen}
use Rattle.writer.proofs.texts.put_entity.Goals as goal

pub put_entity-requires : goal.put_entity-requires
put_entity-requires c = c.requires.fits c.if-write.true

pub returns-then-write : goal.returns-then-write
returns-then-write c = record { bytes = c.put_entity.ensures.bytes ∙ chosen _ _ _ c.if-write.true; place = c.put_entity.ensures.place }
