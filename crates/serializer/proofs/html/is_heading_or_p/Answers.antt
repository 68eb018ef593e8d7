-- `is_heading_or_p` meets its contract.
use borrow.Author.Tests.{le-leb, lt-leb}
use Rattle.serializer.proofs.html.is_heading_or_p.Goals as goal

pub returns-then-tag-ge-H1 : goal.returns-then-tag-ge-H1
returns-then-tag-ge-H1 c = rw (le-leb _ _ c.if-tag-ge-H1.true)

pub returns-else-tag-ge-H1 : goal.returns-else-tag-ge-H1
returns-else-tag-ge-H1 c = rw (lt-leb _ _ c.if-tag-ge-H1.false)
