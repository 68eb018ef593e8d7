-- `relatives::parent` meets its contract.
use Prim.Native.Nat.{◌-◌}
use mathlib.Core.Path.{sym, ap, ◌∙◌}
use native.Mathlib.Omega.{arith}
use Rattle.tree.proofs.Column.{depth_is, depth_small}
use Rattle.tree.proofs.Scans.{above_hit, above_more, above_done}
use Rattle.tree.proofs.relatives.parent.Goals as goal

pub depth_at-d-requires : goal.depth_at-d-requires
depth_at-d-requires c = let p = c.requires in (p.0.lined, p.1)

pub loop-above-init : goal.loop-above-init
loop-above-init c = (omega arith, rw (depth_is _ _ _ c.requires.1 c.depth_at-d.ensures))

pub depth_at-requires : goal.depth_at-requires
depth_at-requires c = (c.requires.0.lined, omega arith)

pub overflow_add-depth_at : goal.overflow_add-depth_at
overflow_add-depth_at c = omega (arith, c.depth_at.ensures, depth_small _ _ c.requires.0 (c.loop-above.above - 1) (omega arith))

pub returns-then-depth_at-d : goal.returns-then-depth_at-d
returns-then-depth_at-d c = sym (above_hit _ _ _ _ c.loop-above-test.true (depth_is _ _ _ (omega arith) c.depth_at.ensures) c.if-depth_at-d.true) ∙ c.loop-above.invariant.1

pub loop-above-smaller : goal.loop-above-smaller
loop-above-smaller c = omega arith

pub loop-above-preserved : goal.loop-above-preserved
loop-above-preserved c = (omega arith, sym (above_more _ _ _ _ c.loop-above-test.true (depth_is _ _ _ (omega arith) c.depth_at.ensures) c.if-depth_at-d.false) ∙ c.loop-above.invariant.1)

pub returns : goal.returns
returns c = sym (above_done _ _ _ c.loop-above-test.false) ∙ c.loop-above.invariant.1
