-- `put` meets its contract.
use mathlib.Core.Path.{◌≡◌}
use native.Mathlib.Omega.{arith}
use native.Mathlib.Nat.{add-zero}
use native.Mathlib.Numerals.{add-one}
use lib.ListN.{drop_of_length-le, length}
use lib.Seq.{drop-cons}
use Rattle.common.proofs.Puts.{putting_start, putting_more, putting_end, puts_one}
use Rattle.common.proofs.put.Goals as goal

pub loop-i-init : goal.loop-i-init
loop-i-init c = rw add-zero putting_start

pub bounds-out-at : goal.bounds-out-at
bounds-out-at c = omega (arith, c.loop-i.invariant.same)

pub loop-i-preserved : goal.loop-i-preserved
loop-i-preserved c =
    let l = c.loop-i in
    putting_more l.invariant (rw add-one (drop-cons c.args.word.now l.i 0 c.loop-i-test.true)) (puts_one _ (omega arith))

pub shape_of-out : goal.shape_of-out
shape_of-out c = c.loop-i.invariant.same

pub returns : goal.returns
returns c =
    let l = c.loop-i in
    let all : l.i ≡ length c.args.word.now = omega arith in
    rw (← all) (putting_end l.invariant (drop_of_length-le c.args.word.now {i = l.i} (omega arith)))
