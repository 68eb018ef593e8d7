-- `opens_list` meets its contract.
use mathlib.Core.Path.{sym, ◌∙◌}
use Rattle.serializer.proofs.html.opens_list.Goals as goal

pub returns-then-is_list : goal.returns-then-is_list
returns-then-is_list c = rw (sym c.is_list.ensures ∙ c.if-is_list.true)

pub returns-else-is_list : goal.returns-else-is_list
returns-else-is_list c = rw (sym c.is_list.ensures ∙ c.if-is_list.false) c.if-is_list.false
