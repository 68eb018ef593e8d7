-- `put` meets its contract.
use Prim.Native.Nat.{◌+◌}
use lib.ListN.{drop}
use Rattle.common.proofs.Puts.{Putting}
use Rattle.common.proofs.put.Given as goal

abbrev pub invariant-loop-i : goal.invariant-loop-i
invariant-loop-i l = Putting l.initial.out l.at l.word l.out (l.at + l.i) (drop l.i l.word)
