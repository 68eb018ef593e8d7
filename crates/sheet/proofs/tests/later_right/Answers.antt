-- `tests::later_right` meets its contract.
use Rattle.sheet.proofs.RowTests.{later_zero, later_deep, later_jump, later_child, later_sibling}
use Rattle.sheet.proofs.tests.later_right.Goals as goal

pub returns-then-r-eq0 : goal.returns-then-r-eq0
returns-then-r-eq0 c = later_zero _ _ c.if-r-eq0.true

pub returns-then-r-gt-MOST_DEPTH : goal.returns-then-r-gt-MOST_DEPTH
returns-then-r-gt-MOST_DEPTH c = later_deep _ _ c.if-r-eq0.false c.if-r-gt-MOST_DEPTH.true

pub returns-then-above-before : goal.returns-then-above-before
returns-then-above-before c = later_jump _ _ c.if-r-eq0.false c.if-r-gt-MOST_DEPTH.false c.if-above-before.true

pub returns-then-above-before-2 : goal.returns-then-above-before-2
returns-then-above-before-2 c = later_child _ _ c.if-r-eq0.false c.if-r-gt-MOST_DEPTH.false c.if-above-before-2.true

pub returns : goal.returns
returns c = later_sibling _ _ c.if-r-eq0.false c.if-r-gt-MOST_DEPTH.false c.if-above-before.false c.if-above-before-2.false
