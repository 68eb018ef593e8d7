-- `write::put_front` meets its contract.
use mathlib.Core.Path.{refl}
use native.Mathlib.Omega.{arith}
use Rattle.sheet.proofs.WritingColumns.{fronting_start, fronting_more, fronting_end}
use Rattle.sheet.proofs.write.put_front.Goals as goal

pub loop-left-init : goal.loop-left-init
loop-left-init c = fronting_start

pub overflow_add-out : goal.overflow_add-out
overflow_add-out c = omega (arith, c.loop-left.invariant.most)

pub bounds-out-at : goal.bounds-out-at
bounds-out-at c = omega (arith, c.loop-left.invariant.most, c.loop-left.invariant.same)

pub loop-left-smaller : goal.loop-left-smaller
loop-left-smaller c = omega arith

pub loop-left-preserved : goal.loop-left-preserved
loop-left-preserved c = fronting_more c.loop-left.invariant c.loop-left-test.true c.column.ensures

pub overflow_add-result : goal.overflow_add-result
overflow_add-result c = omega arith

pub shape_of-out : goal.shape_of-out
shape_of-out c = c.loop-left.invariant.same

pub returns : goal.returns
returns c = fronting_end c.loop-left.invariant c.loop-left-test.false refl
