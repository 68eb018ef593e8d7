-- `notes::note_attribute` meets its contract.
use Rattle.sheet.proofs.AttributePass.{note_attribute_is}
use Rattle.sheet.proofs.notes.note_attribute.Goals as goal

pub returns : goal.returns
returns c = note_attribute_is _ _ _ _ c.note-range.ensures c.ranges_right.ensures c.note-encoding.ensures c.texts_right.ensures
