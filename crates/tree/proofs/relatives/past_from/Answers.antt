-- `relatives::past_from` meets its contract.
use mathlib.Core.Path.{◌≡◌, refl, sym, ◌∙◌}
use Prim.Native.Nat.{ℕ}
use native.Mathlib.Omega.{arith}
use Rattle.sheet.specs.Layout.{depths}
use Rattle.tree.proofs.Column.{below_length, past_length, depth_is}
use Rattle.tree.proofs.Scans.{past_start, past_stop, past_more, past_done}
use Rattle.tree.proofs.relatives.past_from.Goals as goal

pub loop-j-init : goal.loop-j-init
loop-j-init c = (omega arith, refl)

pub depth_at-requires : goal.depth_at-requires
depth_at-requires c = (c.requires.0.lined, c.loop-j-test.true)

pub returns-then-depth_at-d : goal.returns-then-depth_at-d
returns-then-depth_at-d c = sym (past_stop _ _ _ _ (below_length _ _ _ c.loop-j-test.true) (depth_is _ _ _ c.loop-j-test.true c.depth_at.ensures) c.if-depth_at-d.true) ∙ c.loop-j.invariant.1

pub loop-j-smaller : goal.loop-j-smaller
loop-j-smaller c = omega arith

pub loop-j-preserved : goal.loop-j-preserved
loop-j-preserved c = (omega arith, sym (past_more _ _ _ _ (below_length _ _ _ c.loop-j-test.true) (depth_is _ _ _ c.loop-j-test.true c.depth_at.ensures) c.if-depth_at-d.false) ∙ c.loop-j.invariant.1)

pub returns : goal.returns
returns c =
    let e : c.loop-j.j ≡ c.args.l.nodes = omega (arith, c.loop-j.invariant.0) in
    sym e ∙ sym (past_done _ _ _ (past_length _ _ _ c.loop-j-test.false)) ∙ c.loop-j.invariant.1
