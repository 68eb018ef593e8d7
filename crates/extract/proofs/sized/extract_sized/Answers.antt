-- `sized::extract_sized` meets its contract.
use mathlib.Core.Path.{refl, sym, ◌∙◌}
use lib.Dec.{lit≤}
use Rattle.common.proofs.Choice.{absurd_test}
use Rattle.extract.proofs.sized.extract_sized.Goals as goal

pub extract_within-requires : goal.extract_within-requires
extract_within-requires c = (c.requires, λ e. sym c.is_whole-whole.ensures ∙ e, c.if-l-le-FEW_ROWS.true, lit≤ tt)

pub extract_within-requires-then-whole : goal.extract_within-requires-then-whole
extract_within-requires-then-whole c = (c.requires, λ e. sym c.is_whole-whole.ensures ∙ c.if-whole.true, c.requires.nodes, lit≤ tt)

pub extract_within-requires-2 : goal.extract_within-requires-2
extract_within-requires-2 c = (c.requires, λ e. absurd_test e refl, c.requires.nodes, lit≤ tt)
