-- `opens_item` meets its contract.
use mathlib.Core.Path.{sym, ◌∙◌}
use Rattle.serializer.proofs.html.opens_item.Goals as goal

pub returns-then-is_item : goal.returns-then-is_item
returns-then-is_item c = rw (sym c.is_item.ensures ∙ c.if-is_item.true)

pub returns-else-is_item : goal.returns-else-is_item
returns-else-is_item c = rw (sym c.is_item.ensures ∙ c.if-is_item.false) c.if-is_item.false
