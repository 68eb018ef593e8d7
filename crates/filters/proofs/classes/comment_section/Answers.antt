-- `classes::comment_section` meets its contract.
use mathlib.Core.Bool.{not}
use mathlib.Core.Path.{ap, ◌∙◌}
use Rattle.patterns.specs.Match.{matches_of}
use Rattle.patterns.specs.Patterns.{patterns}
use Rattle.filters.specs.Filters.{comment_section}
use Rattle.common.proofs.TestLaws.{and_yes, and_no}
use Rattle.filters.proofs.classes.comment_section.Goals as goal

pub returns-then-not-comments : goal.returns-then-not-comments
unfolding comment_section matches_of patterns
returns-then-not-comments c = and_yes _ (ap not c.if-not-comments.true) c.matches_among.ensures

pub returns-else-not-comments : goal.returns-else-not-comments
unfolding comment_section
returns-else-not-comments c = ap not c.if-not-comments.false ∙ and_no _ (ap not c.if-not-comments.false)
