-- `push_content` meets its contract.
use mathlib.Core.Path.{◌≡◌, refl, ap, ◌∙◌}
use mathlib.Core.List.{List, []}
use Prim.Native.Nat.{ℕ, ◌+◌, ◌<◌}
use lib.ListN.{length, get_or}
use Rattle.common.specs.Bytes.{Bytes}
use Rattle.tree.specs.Node.{Node}
use Rattle.tree.specs.TextContent.{text_data}
use Rattle.tree.proofs.Column.{below_length, past_length, depth_is}
use Rattle.tree.proofs.TextLaws.{text_below, text_below_done, text_below_stop, text_below_more}
use Rattle.writer.specs.Out.{Out, push_all}
use Rattle.writer.proofs.DoesLaws.{does_same, ready_same, grows_push_all}
use Rattle.writer.proofs.OutLaws.{push_all_append}
use Rattle.visible_text.proofs.LeftLaws.{left_start, left_more, left_part, left_done, left_length}
use Rattle.visible_text.proofs.RowLaws.{content_below}
use Rattle.visible_text.proofs.steps.push_content.Invariants.{rest}
use Rattle.visible_text.proofs.steps.push_content.Goals as goal

module _ (node_of : ℕ → Node) (depths : List ℕ) (d j : ℕ) where
  rest_more : (x : ℕ) → j < length depths → x ≡ get_or depths j 0 → d < x
      → (o : Out) → rest node_of depths d j o ≡ rest node_of depths d (j + 1) (push_all (text_data (node_of j)) o)
  rest_more x h e g o =
      ap (λ (t : Bytes). push_all t o) (text_below_more node_of depths d j x h e g) ∙ push_all_append (text_data (node_of j))
      (text_below node_of depths d (j + 1)) o

  rest_none : text_below node_of depths d j ≡ [] → (o : Out) → rest node_of depths d j o ≡ o
  unfolding push_all
  rest_none e o = ap (λ (t : Bytes). push_all t o) e

pub depth_at-d-requires : goal.depth_at-d-requires
depth_at-d-requires c = (c.requires.accepted.0.lined, c.requires.accepted.1)

pub loop-j-init : goal.loop-j-init
loop-j-init c = left_start _ (λ o. refl)

pub depth_at-requires : goal.depth_at-requires
depth_at-requires c = (c.requires.accepted.0.lined, c.loop-j-test.true)

pub shape_of-out-then-depth_at-d : goal.shape_of-out-then-depth_at-d
shape_of-out-then-depth_at-d c =
    let p = c.requires in
    left_length c.loop-j.invariant
    (ready_same (content_below p.accepted.0 p.accepted.1 p.accepted.2 c.depth_at-d.ensures) p.ready_by)

pub returns-then-depth_at-d : goal.returns-then-depth_at-d
returns-then-depth_at-d c =
    let p = c.requires in
    let t = c.loop-j-test.true in
    does_same (content_below p.accepted.0 p.accepted.1 p.accepted.2 c.depth_at-d.ensures)
    (left_done c.loop-j.invariant
    (rest_none _ _ _ _ (text_below_stop _ _ _ _ _ (below_length _ _ _ t) (depth_is _ _ _ t c.depth_at.ensures)
    c.if-depth_at-d.true)))

pub push_data-q-requires : goal.push_data-q-requires
push_data-q-requires c =
    let p = c.requires in
    let t = c.loop-j-test.true in
    record {
      accepted = (p.accepted.0, t);
      ready_by = left_part c.loop-j.invariant _ _
          (rest_more _ _ _ _ _ (below_length _ _ _ t) (depth_is _ _ _ t c.depth_at.ensures) c.if-depth_at-d.false)
          (grows_push_all _)
          (ready_same (content_below p.accepted.0 p.accepted.1 p.accepted.2 c.depth_at-d.ensures) p.ready_by);
    }

pub loop-j-preserved : goal.loop-j-preserved
loop-j-preserved c =
    let t = c.loop-j-test.true in
    left_more c.loop-j.invariant _ c.push_data-q.ensures
    (rest_more _ _ _ _ _ (below_length _ _ _ t) (depth_is _ _ _ t c.depth_at.ensures) c.if-depth_at-d.false)

pub shape_of-out : goal.shape_of-out
shape_of-out c =
    let p = c.requires in
    left_length c.loop-j.invariant
    (ready_same (content_below p.accepted.0 p.accepted.1 p.accepted.2 c.depth_at-d.ensures) p.ready_by)

pub returns : goal.returns
returns c =
    let p = c.requires in
    does_same (content_below p.accepted.0 p.accepted.1 p.accepted.2 c.depth_at-d.ensures)
    (left_done c.loop-j.invariant (rest_none _ _ _ _ (text_below_done _ _ _ _ (past_length _ _ _ c.loop-j-test.false))))
