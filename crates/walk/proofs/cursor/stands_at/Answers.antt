-- `cursor::stands_at` meets its contract.
use mathlib.Core.Path.{sym, ◌∙◌}
use borrow.Author.Tests.{le-ltb}
use Rattle.tree.proofs.Forests.{stands, stands_not}
use Rattle.walk.proofs.cursor.stands_at.Goals as goal

pub returns-then-k-depths : goal.returns-then-k-depths
returns-then-k-depths c = rw c.from.ensures (sym (stands _ _ _ c.if-k-depths.true))

pub returns-else-k-depths : goal.returns-else-k-depths
returns-else-k-depths c = le-ltb _ _ c.if-k-depths.false ∙ sym (stands_not _ _ _ c.if-k-depths.false)
