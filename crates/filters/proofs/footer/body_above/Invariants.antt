-- `footer::body_above` meets its contract.
use Prim.Native.Nat.{◌<◌}
use mathlib.Core.Path.{◌≡◌}
use Rattle.sheet.specs.Layout.{depths}
use Rattle.tree.specs.Page.{node_at}
use Rattle.filters.specs.Footer.{body_above}
use Rattle.filters.proofs.footer.body_above.Given as goal

abbrev pub invariant-loop-row : goal.invariant-loop-row
invariant-loop-row l = (l.row < l.l.nodes) × (body_above (node_at l.s l.l) (depths l.s l.l) l.row ≡ body_above (node_at l.s l.l) (depths l.s l.l) l.i)

abbrev pub decreases-loop-row : goal.decreases-loop-row
decreases-loop-row l = l.row
