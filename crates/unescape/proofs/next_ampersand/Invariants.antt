-- `next_ampersand` meets its contract.
use Rattle.unescape.specs.Inner.{FreeOf}
use Rattle.unescape.proofs.next_ampersand.Given as goal

abbrev pub invariant-loop-i : goal.invariant-loop-i
invariant-loop-i l = FreeOf l.s l.from l.i
