-- `block_after_marks` meets its contract.
use mathlib.Core.Path.{sym, ◌∙◌}
use Rattle.serializer.proofs.html.block_after_marks.Goals as goal

pub returns-then-not-opens_item : goal.returns-then-not-opens_item
returns-then-not-opens_item c = rw (c.if-n.true, sym c.opens_item.ensures ∙ c.if-not-opens_item.true)

pub returns-else-not-opens_item : goal.returns-else-not-opens_item
returns-else-not-opens_item c = rw (c.if-n.true, sym c.opens_item.ensures ∙ c.if-not-opens_item.false) c.if-not-opens_item.false-raw
