-- `relatives::scan` meets its contract.
use mathlib.Core.Path.{refl, sym, ap, ◌∙◌}
use native.Mathlib.Omega.{arith}
use Rattle.tree.proofs.Column.{below_length, past_length, depth_is}
use Rattle.tree.proofs.Scans.{scan_less, scan_hit, scan_more, scan_done}
use Rattle.tree.proofs.relatives.scan.Goals as goal

pub loop-j-init : goal.loop-j-init
loop-j-init c = (omega arith, refl)

pub depth_at-x-requires : goal.depth_at-x-requires
depth_at-x-requires c = (c.requires.0.lined, c.loop-j-test.true)

pub returns-then-x-d : goal.returns-then-x-d
returns-then-x-d c = sym (scan_less _ _ _ _ (below_length _ _ _ c.loop-j-test.true) (depth_is _ _ _ c.loop-j-test.true c.depth_at-x.ensures) c.if-x-d.true) ∙ c.loop-j.invariant.1

pub returns-then-x-d-2 : goal.returns-then-x-d-2
returns-then-x-d-2 c =
    let l = c.loop-j in
    sym (scan_hit _ _ _ _ (below_length _ _ _ c.loop-j-test.true) (depth_is _ _ _ c.loop-j-test.true c.depth_at-x.ensures) c.if-x-d-2.true) ∙ l.invariant.1

pub loop-j-smaller : goal.loop-j-smaller
loop-j-smaller c = omega arith

pub loop-j-preserved : goal.loop-j-preserved
loop-j-preserved c =
    let l = c.loop-j in
    (omega arith, sym (scan_more _ _ _ _ (below_length _ _ _ c.loop-j-test.true) (depth_is _ _ _ c.loop-j-test.true c.depth_at-x.ensures) c.if-x-d.false c.if-x-d-2.false) ∙ l.invariant.1)

pub returns : goal.returns
returns c = sym (scan_done _ _ _ (past_length _ _ _ c.loop-j-test.false)) ∙ c.loop-j.invariant.1
