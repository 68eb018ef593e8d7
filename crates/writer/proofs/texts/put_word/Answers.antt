-- `put_word` meets its contract.
use Rattle.writer.proofs.PlacesLaws.{room_as}
use Rattle.writer.proofs.WordsLaws.{plain_puts}
use Rattle.writer.proofs.texts.put_word.Goals as goal

pub put_plain-requires : goal.put_plain-requires
put_plain-requires c = room_as (c.is_plain.ensures c.if-is_plain.true).same c.requires

pub returns-then-is_plain : goal.returns-then-is_plain
returns-then-is_plain c = plain_puts (c.is_plain.ensures c.if-is_plain.true) c.put_plain.ensures
