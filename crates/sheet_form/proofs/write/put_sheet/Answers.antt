-- `write::put_sheet` meets its contract.
use native.Mathlib.Omega.{arith}
use Rattle.sheet_form.proofs.Writing.{line_past, rows_past, attributes_past, part_length, sheet_put}
use Rattle.sheet_form.proofs.write.put_sheet.Goals as goal

pub put_rows-at2-requires : goal.put_rows-at2-requires
put_rows-at2-requires c = let p = line_past _ _ c.put_header-at1.ensures in (c.requires.0, omega arith)

pub put_attributes-at3-requires : goal.put_attributes-at3-requires
put_attributes-at3-requires c =
    let p = line_past _ _ c.put_header-at1.ensures in
    let q = rows_past _ _ _ c.put_rows-at2.ensures in
    (c.requires.0, omega arith)

pub put-requires : goal.put-requires
put-requires c =
    let p = line_past _ _ c.put_header-at1.ensures in
    let q = rows_past _ _ _ c.put_rows-at2.ensures in
    let r = attributes_past _ _ _ c.put_attributes-at3.ensures in
    let n = part_length c.requires.0 c.args.width c.part.ensures in
    omega arith

pub returns : goal.returns
returns c = sheet_put c.requires.0 _ c.put_header-at1.ensures c.put_rows-at2.ensures c.put_attributes-at3.ensures c.put.ensures c.part.ensures
