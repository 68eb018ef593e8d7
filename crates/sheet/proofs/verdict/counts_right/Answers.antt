-- `verdict::counts_right` meets its contract.
use Rattle.sheet.proofs.Header.{no_node, many_nodes, many_attributes, large_pool, root_test}
use Rattle.sheet.proofs.verdict.counts_right.Goals as goal

pub returns-then-l-lt1 : goal.returns-then-l-lt1
returns-then-l-lt1 c = no_node _ c.if-l-lt1.true

pub returns-then-l-gt-MOST_ROWS : goal.returns-then-l-gt-MOST_ROWS
returns-then-l-gt-MOST_ROWS c = many_nodes _ c.if-l-lt1.false c.if-l-gt-MOST_ROWS.true

pub returns-then-l-gt-MOST_ATTRIBUTES : goal.returns-then-l-gt-MOST_ATTRIBUTES
returns-then-l-gt-MOST_ATTRIBUTES c = many_attributes _ c.if-l-lt1.false c.if-l-gt-MOST_ROWS.false c.if-l-gt-MOST_ATTRIBUTES.true

pub returns-then-l-gt-MOST_POOL : goal.returns-then-l-gt-MOST_POOL
returns-then-l-gt-MOST_POOL c = large_pool _ c.if-l-lt1.false c.if-l-gt-MOST_ROWS.false c.if-l-gt-MOST_ATTRIBUTES.false c.if-l-gt-MOST_POOL.true

pub returns : goal.returns
returns c = root_test _ c.if-l-lt1.false c.if-l-gt-MOST_ROWS.false c.if-l-gt-MOST_ATTRIBUTES.false c.if-l-gt-MOST_POOL.false
