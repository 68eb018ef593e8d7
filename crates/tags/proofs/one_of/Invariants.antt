-- `one_of` meets its contract.
use Prim.Native.Nat.{◌-◌, suc}
use lib.ListN.{length}
use Rattle.tags.proofs.LineLaws.{Seeking}
use Rattle.tags.proofs.one_of.Given as goal

abbrev pub invariant-loop-to : goal.invariant-loop-to
invariant-loop-to l = Seeking l.s l.words l.from l.to

abbrev pub decreases-loop-to : goal.decreases-loop-to
decreases-loop-to l = suc (length l.words) - l.from
