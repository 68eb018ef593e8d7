-- `tests::is_inside` meets its contract.
use Rattle.sheet.proofs.RowTests.{inside_past, inside_apart}
use Rattle.sheet.proofs.tests.is_inside.Goals as goal

pub returns-then-at-pool : goal.returns-then-at-pool
returns-then-at-pool c = inside_past _ _ _ c.if-at-pool.true

pub returns : goal.returns
returns c = inside_apart _ _ _ c.if-at-pool.false
