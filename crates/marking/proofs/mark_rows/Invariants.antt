-- `mark_rows` meets its contract.
use Rattle.marking.proofs.MarkingRows.{Marking}
use Rattle.marking.proofs.mark_rows.Given as goal

abbrev pub invariant-loop-i : goal.invariant-loop-i
invariant-loop-i l = Marking l.options l.noscript l.initial.s l.l l.i l.s l.n
