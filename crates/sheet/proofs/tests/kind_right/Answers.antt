-- `tests::kind_right` meets its contract.
use mathlib.Core.Path.{◌∙◌}
use Rattle.sheet.proofs.RowTests.{kind_skip, kind_element, kind_text, kind_comment, kind_other}
use Rattle.sheet.proofs.tests.kind_right.Goals as goal

pub returns-then-r-gt1 : goal.returns-then-r-gt1
returns-then-r-gt1 c = kind_skip _ c.if-r-gt1.true

pub returns-then-r-eq1 : goal.returns-then-r-eq1
returns-then-r-eq1 c = kind_element _ c.if-r-gt1.false c.if-r-eq1.true

pub returns-then-r-eq3 : goal.returns-then-r-eq3
returns-then-r-eq3 c = c.leaf_right.ensures ∙ kind_text _ c.if-r-gt1.false c.if-r-eq1.false c.if-r-eq3.true

pub returns-then-r-eq8 : goal.returns-then-r-eq8
returns-then-r-eq8 c = c.leaf_right-then-r-eq8.ensures ∙ kind_comment _ c.if-r-gt1.false c.if-r-eq1.false c.if-r-eq3.false c.if-r-eq8.true

pub returns : goal.returns
returns c = kind_other _ c.if-r-gt1.false c.if-r-eq1.false c.if-r-eq3.false c.if-r-eq8.false
