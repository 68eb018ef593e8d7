-- `write::put_short_line` meets its contract.
use mathlib.Core.Path.{refl}
use native.Mathlib.Omega.{arith}
use lib.ListN.{length-set}
use Rattle.common.proofs.Puts.{puts_one}
use Rattle.sheet.proofs.WritingColumns.{four_past, line_put}
use Rattle.sheet.proofs.write.put_short_line.Goals as goal

pub bounds-out-end : goal.bounds-out-end
bounds-out-end c = let p = four_past _ _ c.put_four-end.ensures in omega arith

pub overflow_add-result : goal.overflow_add-result
overflow_add-result c = let p = four_past _ _ c.put_four-end.ensures in omega arith

pub shape_of-out : goal.shape_of-out
shape_of-out c = let p = four_past _ _ c.put_four-end.ensures in simp length-set p.1

pub returns : goal.returns
returns c = line_put _ _ c.put_four-end.ensures (puts_one _ refl)
