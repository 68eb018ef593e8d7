-- `write::put_four` meets its contract.
use native.Mathlib.Omega.{arith}
use Rattle.sheet.proofs.WritingColumns.{number_past, four_put}
use Rattle.sheet.proofs.write.put_four.Goals as goal

pub put_columns-at2-requires : goal.put_columns-at2-requires
put_columns-at2-requires c = let p = number_past _ _ c.put_columns-at1.ensures in omega arith

pub put_columns-at3-requires : goal.put_columns-at3-requires
put_columns-at3-requires c =
    let p = number_past _ _ c.put_columns-at1.ensures in
    let p2 = number_past _ _ c.put_columns-at2.ensures in
    omega arith

pub put_columns-requires : goal.put_columns-requires
put_columns-requires c =
    let p = number_past _ _ c.put_columns-at1.ensures in
    let p2 = number_past _ _ c.put_columns-at2.ensures in
    let p3 = number_past _ _ c.put_columns-at3.ensures in
    omega arith

pub returns : goal.returns
returns c = four_put _ _ c.put_columns-at1.ensures c.put_columns-at2.ensures c.put_columns-at3.ensures c.put_columns.ensures
