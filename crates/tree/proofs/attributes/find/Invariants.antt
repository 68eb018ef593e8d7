-- `attributes::find` meets its contract.
use Prim.Native.Nat.{◌+◌, ◌-◌, ◌≤◌}
use mathlib.Core.Path.{◌≡◌}
use Rattle.tree.specs.Attributes.{find_of}
use Rattle.tree.proofs.attributes.find.Given as goal

abbrev pub invariant-loop-j : goal.invariant-loop-j
invariant-loop-j l = (l.j ≤ l.count) × (find_of l.s l.l l.name (l.from + l.j) (l.count - l.j) ≡ find_of l.s l.l l.name l.from l.count)

abbrev pub decreases-loop-j : goal.decreases-loop-j
decreases-loop-j l = l.count - l.j
