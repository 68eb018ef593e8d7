-- `next_row` meets its contract.
use native.Mathlib.Omega.{arith}
use borrow.Author.Tests.{le-leb, lt-leb}
use Rattle.visible_text.proofs.rows.next_row.Goals as goal

pub returns-then-step-le-PARAGRAPH : goal.returns-then-step-le-PARAGRAPH
returns-then-step-le-PARAGRAPH c = rw (le-leb _ 2 c.if-step-le-PARAGRAPH.true) (omega arith)

pub returns : goal.returns
returns c = rw (lt-leb _ 2 c.if-step-le-PARAGRAPH.false) c.past.ensures
