-- `relatives::parent` meets its contract.
use Prim.Native.Nat.{◌≤◌}
use mathlib.Core.Path.{◌≡◌}
use Rattle.sheet.specs.Column.{last_above, parent_of}
use Rattle.sheet.specs.Layout.{depths}
use Rattle.tree.proofs.relatives.parent.Given as goal

abbrev pub invariant-loop-above : goal.invariant-loop-above
invariant-loop-above l = (l.above ≤ l.i) × (last_above (depths l.s l.l) l.d l.above ≡ parent_of (depths l.s l.l) l.i)

abbrev pub decreases-loop-above : goal.decreases-loop-above
decreases-loop-above l = l.above
