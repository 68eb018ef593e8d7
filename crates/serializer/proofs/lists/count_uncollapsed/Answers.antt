-- `count_uncollapsed` meets its contract.
use mathlib.Core.Path.{sym, ◌∙◌}
use Rattle.serializer.proofs.lists.count_uncollapsed.Goals as goal

pub returns-then-is_uncollapsed : goal.returns-then-is_uncollapsed
returns-then-is_uncollapsed c = rw (sym c.is_uncollapsed.ensures ∙ c.if-is_uncollapsed.true)

pub returns : goal.returns
returns c = rw (sym c.is_uncollapsed.ensures ∙ c.if-is_uncollapsed.false)
