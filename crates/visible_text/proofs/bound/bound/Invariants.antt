-- `bound::bound` meets its contract.
use mathlib.Core.Path.{◌≡◌}
use Prim.Native.Nat.{◌+◌}
use Rattle.visible_text.proofs.BoundLaws.{left_from}
use Rattle.visible_text.proofs.bound.bound.Given as goal

abbrev pub invariant-loop-j : goal.invariant-loop-j
invariant-loop-j l = l.n + left_from l.s l.l l.d l.j ≡ left_from l.s l.l l.d (l.row + 1)
