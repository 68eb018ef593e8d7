-- `decide_tree` meets its contract.
use Prim.Native.Nat.{◌-◌}
use lib.ListN.{length}
use Rattle.left_out.specs.LeftOut.{comment_or_marked, left_out_at}
use Rattle.left_out.proofs.DecidingLaws.{Deciding}
use Rattle.left_out.proofs.StackLaws.{Entered}
use Rattle.left_out.proofs.decide_tree.Given as goal

abbrev pub invariant-loop-k : goal.invariant-loop-k
invariant-loop-k l =
    Deciding l.depths (left_out_at l.s l.l l.o) (comment_or_marked l.s l.l) l.l.root l.initial.left l.left l.k × Entered l.depths l.initial.stack l.stack l.k

abbrev pub decreases-loop-k : goal.decreases-loop-k
decreases-loop-k l = length l.depths - l.k
