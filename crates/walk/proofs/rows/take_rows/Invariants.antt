-- `rows::take_rows` meets its contract.
use Prim.Native.Nat.{◌-◌}
use Rattle.walk.proofs.RowLaws.{Taking}
use Rattle.walk.proofs.rows.take_rows.Given as goal

abbrev pub invariant-loop-i : goal.invariant-loop-i
invariant-loop-i l =
    Taking l.s l.l l.initial.depths l.initial.tags l.initial.attributes l.initial.values l.initial.lengths l.initial.left l.depths l.tags l.attributes l.values l.lengths l.left l.before l.at l.first l.i

abbrev pub decreases-loop-i : goal.decreases-loop-i
decreases-loop-i l = l.i-end - l.i
