-- `notes::note_row` meets its contract.
use Rattle.sheet.proofs.NodePass.{note_row_is}
use Rattle.sheet.proofs.notes.note_row.Goals as goal

pub returns : goal.returns
returns c =
    note_row_is _ _ _ _ _ c.note-kind.ensures c.kind_right.ensures c.note-tree.ensures c.tree_right.ensures
    c.note-range.ensures c.ranges_right.ensures c.note-encoding.ensures c.texts_right.ensures
