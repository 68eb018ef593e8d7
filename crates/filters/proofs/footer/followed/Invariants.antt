-- `footer::followed` meets its contract.
use Rattle.filters.proofs.RowLaws.{Climbed}
use Rattle.filters.proofs.footer.followed.Given as goal

abbrev pub invariant-loop-depth : goal.invariant-loop-depth
invariant-loop-depth l = Climbed l.s l.l l.i l.stack l.row l.depth l.end

abbrev pub decreases-loop-depth : goal.decreases-loop-depth
decreases-loop-depth l = l.depth
