-- `dom_node_walk` meets its contract.
use Prim.Native.Nat.{◌-◌}
use Rattle.sheet.specs.Layout.{depths}
use Rattle.text.specs.Text.{is_ascii_whitespace}
use Rattle.tree.specs.Page.{node_at}
use Rattle.tree.specs.Rows.{children_of, open_rows}
use Rattle.visible_text.specs.Inner.{remaining}
use Rattle.visible_text.specs.VisibleText.{walk}
use Rattle.visible_text.proofs.LeftLaws.{Left}
use Rattle.visible_text.proofs.PassLaws.{Stands}
use Rattle.visible_text.proofs.rows.dom_node_walk.Given as goal

abbrev pub invariant-loop-k : goal.invariant-loop-k
invariant-loop-k l =
    Stands l.s l.l l.base l.initial.steps l.steps l.count l.k
    × Left is_ascii_whitespace l.write l.initial.q l.initial.out (walk (node_at l.s l.l) (children_of (depths l.s l.l) l.row)) l.q l.out
    (remaining (node_at l.s l.l) (depths l.s l.l) l.base l.k (open_rows l.steps l.count))

abbrev pub decreases-loop-k : goal.decreases-loop-k
decreases-loop-k l = l.nodes - l.k
