-- `write::put_columns` meets its contract.
use mathlib.Core.Path.{refl}
use native.Mathlib.Omega.{arith}
use Rattle.common.proofs.Puts.{puts_one}
use Rattle.sheet.proofs.WritingColumns.{front_past, none_put, number_put}
use Rattle.sheet.proofs.write.put_columns.Goals as goal

pub returns-then-width-eq0 : goal.returns-then-width-eq0
returns-then-width-eq0 c = none_put _ _ c.if-width-eq0.true

pub bounds-out-last : goal.bounds-out-last
bounds-out-last c = let p = front_past _ _ c.put_front-last.ensures in omega (arith, c.if-width-eq0.false)

pub overflow_add-result : goal.overflow_add-result
overflow_add-result c = let p = front_past _ _ c.put_front-last.ensures in omega (arith, c.if-width-eq0.false)

pub returns : goal.returns
returns c = number_put _ _ c.if-width-eq0.false c.put_front-last.ensures (puts_one _ refl)
