-- `write::put_row` meets its contract.
use native.Mathlib.Omega.{arith}
use Rattle.sheet.proofs.WritingColumns.{four_past}
use Rattle.sheet_form.proofs.Writing.{row_put}
use Rattle.sheet_form.proofs.write.put_row.Goals as goal

pub put_short_line-requires : goal.put_short_line-requires
put_short_line-requires c = let p = four_past _ _ c.put_four-middle.ensures in omega arith

pub returns : goal.returns
returns c = row_put _ _ _ c.put_four-middle.ensures c.put_short_line.ensures
