-- `count_rows` meets its contract.
use Rattle.std.proofs.Common.{◌≡◌, ◌+◌, length, get_or}
use Rattle.sheet.specs.Layout.{most_depth, depths}
use Rattle.tree.specs.Page.{node_at}
use Rattle.links.proofs.Counted.{Counted}
use Rattle.links.proofs.counts.count_rows.Given as goal

abbrev pub invariant-loop-j : goal.invariant-loop-j
invariant-loop-j l = (l.d ≡ get_or (depths l.s l.l) l.i 0) × (length l.around ≡ most_depth + 2) × Counted (node_at l.s l.l) (depths l.s l.l) l.i l.j l.c l.around
