-- `put_collapsed` meets its contract.
use lib.ListN.{drop}
use Rattle.common.proofs.Puts.{Putting}
use Rattle.text.specs.Text.{is_space, collapse, collapse_from}
use Rattle.text.proofs.put_collapsed.Given as goal

abbrev pub invariant-loop-b : goal.invariant-loop-b
invariant-loop-b l = Putting l.initial.out 0 (collapse l.s) l.out l.at (collapse_from is_space l.space (drop l.b-index l.s))
