-- `write::put_front` meets its contract.
use Rattle.sheet.proofs.WritingColumns.{Fronting}
use Rattle.sheet.proofs.write.put_front.Given as goal

abbrev pub invariant-loop-left : goal.invariant-loop-left
invariant-loop-left l = Fronting l.initial.out l.at l.width l.q-2 l.out l.q l.left

abbrev pub decreases-loop-left : goal.decreases-loop-left
decreases-loop-left l = l.left
