-- `names::longest_names` meets its contract.
use Prim.Native.Nat.{◌-◌}
use Rattle.walk.proofs.NameLaws.{Longest}
use Rattle.walk.proofs.names.longest_names.Given as goal

abbrev pub invariant-loop-i : goal.invariant-loop-i
invariant-loop-i l = Longest l.s l.l l.longest l.first l.i

abbrev pub decreases-loop-i : goal.decreases-loop-i
decreases-loop-i l = l.i-end - l.i
