-- `pack` meets its contract.
use Rattle.tags.proofs.PackLaws.{Packing}
use Rattle.tags.proofs.pack.Given as goal

abbrev pub invariant-loop-i : goal.invariant-loop-i
invariant-loop-i l = Packing l.name l.v l.i
