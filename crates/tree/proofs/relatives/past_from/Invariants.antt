-- `relatives::past_from` meets its contract.
use Prim.Native.Nat.{◌-◌, ◌≤◌}
use mathlib.Core.Path.{◌≡◌}
use lib.ListN.{drop}
use Rattle.sheet.specs.Layout.{depths}
use Rattle.tree.specs.Rows.{past_from, past_of}
use Rattle.tree.proofs.relatives.past_from.Given as goal

abbrev pub invariant-loop-j : goal.invariant-loop-j
invariant-loop-j l = (l.j ≤ l.fn.l.nodes) × (past_from l.d l.j (drop l.j (depths l.s l.l)) ≡ past_from l.d l.from (drop l.from (depths l.s l.l)))

abbrev pub decreases-loop-j : goal.decreases-loop-j
decreases-loop-j l = l.fn.l.nodes - l.j
