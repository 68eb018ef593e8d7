-- `enter` meets its contract.
use Prim.Native.Nat.{◌-◌, ◌≤◌}
use Rattle.left_out.proofs.StackLaws.{Entered}
use Rattle.left_out.proofs.enter.Given as goal

abbrev pub invariant-loop-k : goal.invariant-loop-k
invariant-loop-k l = (l.k ≤ l.root) × Entered l.depths l.initial.stack l.stack l.k

abbrev pub decreases-loop-k : goal.decreases-loop-k
decreases-loop-k l = l.root - l.k
