-- `enter` meets its contract.
use native.Mathlib.Omega.{arith}
use mathlib.Core.Path.{refl}
use Rattle.left_out.proofs.StackLaws.{entered_none, entered_more, entered_all}
use Rattle.left_out.proofs.enter.Goals as goal

pub loop-k-init : goal.loop-k-init
loop-k-init c = (omega arith, entered_none _ c.requires.0 c.requires.2)

pub offset_bounds-stack-from : goal.offset_bounds-stack-from
offset_bounds-stack-from c = omega (arith, c.from.ensures, c.loop-k.invariant.1.fits.place c.loop-k.k (omega arith))

pub bounds-stack-from : goal.bounds-stack-from
bounds-stack-from c = omega (arith, c.from.ensures, c.loop-k.invariant.1.fits.place c.loop-k.k (omega arith))

pub loop-k-smaller : goal.loop-k-smaller
loop-k-smaller c = omega arith

pub loop-k-preserved : goal.loop-k-preserved
loop-k-preserved c = (omega arith, rw c.from.ensures (entered_more _ c.requires.0 c.loop-k.invariant.1 (omega arith) refl))

pub shape_of-stack : goal.shape_of-stack
shape_of-stack c = c.loop-k.invariant.1.same

pub returns : goal.returns
returns c = entered_all _ c.loop-k.invariant.1 (omega arith)
