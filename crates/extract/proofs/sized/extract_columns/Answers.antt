-- `sized::extract_columns` meets its contract.
use mathlib.Core.Path.{sym}
use native.Mathlib.Omega.{arith}
use lib.Seq.{length-take-le}
use Rattle.left_out.proofs.LeftOutLaws.{noted, marks_noted}
use Rattle.extract.proofs.ColumnLaws.{visits_noted, rows_walked, rows_extract}
use Rattle.extract.proofs.sized.extract_columns.Goals as goal

pub slice_bounds-column-end : goal.slice_bounds-column-end
slice_bounds-column-end c = sym (length-take-le _ _ c.requires.accepted.1.depths_long)

pub decide-requires : goal.decide-requires
decide-requires c = let p = c.requires in (noted p.accepted.1 p.rows_read p.accepted.0, marks_noted p.accepted.1 p.rows_read, p.most_depth_in_bounds.0)

pub extract_rows-requires : goal.extract_rows-requires
extract_rows-requires c = let p = c.requires in record { noted = visits_noted p.accepted.1 p.rows_read p.accepted.0; walked = (rows_walked _ _ _ _ c.decide.ensures.0 p.accepted.0 (omega (arith, p.accepted.1.left_long)), omega (arith, p.most_depth_in_bounds.0), p.most_depth_in_bounds.1, p.most_depth_in_bounds.2) }

pub returns : goal.returns
returns c =
    let all = rows_extract _ _ _ c.decide.new.left c.decide.ensures.0 c.names_need-names.ensures c.extract_rows.ensures.concludes c.extract_rows.ensures.counted in
    record { extracts = all.0; counted = all.1 }
