-- `opens_tag` meets its contract.
use mathlib.Core.Path.{sym, ◌∙◌}
use borrow.Author.Tests.{lt-ltb, le-ltb}
use Rattle.serializer.proofs.html.opens_tag.Goals as goal

pub returns-then-opens_plain : goal.returns-then-opens_plain
returns-then-opens_plain c = rw (sym c.opens_plain.ensures ∙ c.if-opens_plain.true) c.if-opens_plain.true

pub returns-then-uncollapsed-gt0 : goal.returns-then-uncollapsed-gt0
returns-then-uncollapsed-gt0 c = rw (sym c.opens_plain.ensures ∙ c.if-opens_plain.false, lt-ltb _ _ c.if-uncollapsed-gt0.true)

pub returns-else-uncollapsed-gt0 : goal.returns-else-uncollapsed-gt0
returns-else-uncollapsed-gt0 c = rw (sym c.opens_plain.ensures ∙ c.if-opens_plain.false, le-ltb _ _ c.if-uncollapsed-gt0.false)
