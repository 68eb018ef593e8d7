-- `put_escaped` meets its contract.
use lib.ListN.{drop}
use Rattle.common.proofs.Puts.{Putting}
use Rattle.text.specs.Text.{escape}
use Rattle.text.proofs.put_escaped.Given as goal

abbrev pub invariant-loop-b : goal.invariant-loop-b
invariant-loop-b l = Putting l.initial.out 0 (escape l.s) l.out l.at (escape (drop l.b-index l.s))
