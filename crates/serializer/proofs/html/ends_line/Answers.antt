-- `ends_line` meets its contract.
use mathlib.Core.Path.{sym, ◌∙◌}
use Rattle.serializer.proofs.html.ends_line.Goals as goal

pub returns-then-opens_list : goal.returns-then-opens_list
returns-then-opens_list c = rw (sym c.opens_list.ensures ∙ c.if-opens_list.true)

pub returns-else-opens_list : goal.returns-else-opens_list
returns-else-opens_list c = rw (sym c.opens_list.ensures ∙ c.if-opens_list.false) c.if-opens_list.false
