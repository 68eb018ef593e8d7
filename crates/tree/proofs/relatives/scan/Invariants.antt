-- `relatives::scan` meets its contract.
use Prim.Native.Nat.{◌-◌, ◌≤◌}
use mathlib.Core.Path.{◌≡◌}
use lib.ListN.{drop}
use Rattle.sheet.specs.Layout.{depths}
use Rattle.tree.specs.Rows.{scan_of}
use Rattle.tree.proofs.relatives.scan.Given as goal

abbrev pub invariant-loop-j : goal.invariant-loop-j
invariant-loop-j l = (l.j ≤ l.fn.l.nodes) × (scan_of l.d l.j (drop l.j (depths l.s l.l)) ≡ scan_of l.d l.from (drop l.from (depths l.s l.l)))

abbrev pub decreases-loop-j : goal.decreases-loop-j
decreases-loop-j l = l.fn.l.nodes - l.j
