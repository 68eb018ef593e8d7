-- `notes::read_nodes` meets its contract.
use Prim.Native.Nat.{◌-◌}
use Rattle.sheet.proofs.NodePass.{Nodes}
use Rattle.sheet.proofs.notes.read_nodes.Given as goal

abbrev pub invariant-loop-i : goal.invariant-loop-i
invariant-loop-i l = Nodes l.s l.fn.l l.n l.before l.at l.i

abbrev pub decreases-loop-i : goal.decreases-loop-i
decreases-loop-i l = l.fn.l.nodes - l.i
