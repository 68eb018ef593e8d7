-- `content::length_below` meets its contract.
use mathlib.Core.Path.{refl, sym, ◌∙◌}
use native.Mathlib.Nat.{zero-add}
use native.Mathlib.Omega.{arith}
use Rattle.sheet.specs.Layout.{depths}
use Rattle.tree.specs.Page.{node_at}
use Rattle.tree.proofs.Column.{below_length, past_length, depth_is}
use Rattle.tree.proofs.PageLaws.{is_element}
use Rattle.tree.proofs.SheetColumn.{well_formed}
use Rattle.tree.proofs.TextLengths.{length_below_of, length_done, length_stop, length_more, length_small}
use Rattle.tree.proofs.content.length_below.Goals as goal

pub depth_at-d-requires : goal.depth_at-d-requires
depth_at-d-requires c = (c.requires.0.lined, c.requires.1)

pub loop-j-init : goal.loop-j-init
loop-j-init c =
    let a = c.args in
    (omega arith, rw (depth_is _ _ _ c.requires.1 c.depth_at-d.ensures) (zero-add _ ∙ sym (length_below_of (node_at a.s.now a.l) (depths a.s.now a.l) (well_formed c.requires.0) a.i (is_element _ _ _ refl c.requires.2))))

pub depth_at-requires : goal.depth_at-requires
depth_at-requires c = (c.requires.0.lined, c.loop-j-test.true)

pub returns-then-depth_at-d : goal.returns-then-depth_at-d
returns-then-depth_at-d c = length_stop _ _ _ _ _ c.loop-j.p c.loop-j.invariant.1 _ (below_length _ _ _ c.loop-j-test.true) (depth_is _ _ _ c.loop-j-test.true c.depth_at.ensures) c.if-depth_at-d.true

pub add_row-p-requires : goal.add_row-p-requires
add_row-p-requires c = (c.requires.0, c.loop-j-test.true, omega (arith, c.loop-j.invariant.1, length_small c.requires.0 _ c.requires.1))

pub loop-j-smaller : goal.loop-j-smaller
loop-j-smaller c = omega arith

pub loop-j-preserved : goal.loop-j-preserved
loop-j-preserved c = (omega arith, length_more _ _ _ _ _ c.loop-j.p c.loop-j.invariant.1 _ (below_length _ _ _ c.loop-j-test.true) (depth_is _ _ _ c.loop-j-test.true c.depth_at.ensures) c.if-depth_at-d.false c.add_row-p.ensures)

pub returns : goal.returns
returns c = length_done _ _ _ _ _ c.loop-j.p c.loop-j.invariant.1 (past_length _ _ _ c.loop-j-test.false)
