-- `content::length_below` meets its contract.
use Prim.Native.Nat.{◌+◌, ◌-◌, ◌≤◌}
use mathlib.Core.Path.{◌≡◌}
use lib.ListN.{length}
use Rattle.sheet.specs.Layout.{depths}
use Rattle.text.specs.Text.{is_space, collapse_from}
use Rattle.tree.specs.Page.{node_at}
use Rattle.tree.specs.TextLength.{text_length}
use Rattle.tree.proofs.TextLaws.{text_below}
use Rattle.tree.proofs.content.length_below.Given as goal

abbrev pub invariant-loop-j : goal.invariant-loop-j
invariant-loop-j l = (l.j ≤ l.fn.l.nodes) × (l.p.len + length (collapse_from is_space l.p.space (text_below (node_at l.s l.l) (depths l.s l.l) l.d l.j)) ≡ text_length (node_at l.s l.l) (depths l.s l.l) l.i)

abbrev pub decreases-loop-j : goal.decreases-loop-j
decreases-loop-j l = l.fn.l.nodes - l.j
