-- `wants_tag` meets its contract.
use mathlib.Core.Path.{sym, ◌∙◌}
use Rattle.serializer.proofs.html.wants_tag.Goals as goal

pub returns-then-is_heading_or_p : goal.returns-then-is_heading_or_p
returns-then-is_heading_or_p c = rw (c.if-n.true, sym c.is_heading_or_p.ensures ∙ c.if-is_heading_or_p.true) c.if-is_heading_or_p.true

pub returns-then-is_list : goal.returns-then-is_list
returns-then-is_list c = rw (c.if-n.true, sym c.is_heading_or_p.ensures ∙ c.if-is_heading_or_p.false, sym c.is_list.ensures ∙ c.if-is_list.true)

pub returns-else-is_list : goal.returns-else-is_list
returns-else-is_list c = rw (c.if-n.true, sym c.is_heading_or_p.ensures ∙ c.if-is_heading_or_p.false, sym c.is_list.ensures ∙ c.if-is_list.false) c.if-is_list.false
