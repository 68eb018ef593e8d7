-- `put_special` meets its contract.
use Rattle.writer.proofs.PlacesLaws.{room_as, stored_as}
use Rattle.writer.proofs.TimesLaws.{times_once, times_twice}
use Rattle.writer.proofs.texts.put_special.Goals as goal

pub put_entity-requires : goal.put_entity-requires
put_entity-requires c = room_as (times_once _ _ c.if-times-eq1.true) c.requires.1

pub returns-then-times-eq1 : goal.returns-then-times-eq1
returns-then-times-eq1 c = stored_as (times_once _ _ c.if-times-eq1.true) c.put_entity.ensures

pub put_twice-requires : goal.put_twice-requires
put_twice-requires c = room_as (times_twice _ _ c.requires.0 c.if-times-eq1.false) c.requires.1

pub returns : goal.returns
returns c = stored_as (times_twice _ _ c.requires.0 c.if-times-eq1.false) c.put_twice.ensures
