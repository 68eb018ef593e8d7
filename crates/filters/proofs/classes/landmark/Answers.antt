-- `classes::landmark` meets its contract.
use mathlib.Core.Path.{sym, ◌∙◌}
use Rattle.patterns.specs.Match.{matches_of}
use Rattle.patterns.specs.Patterns.{patterns}
use Rattle.filters.specs.Classes.{any_match}
use Rattle.filters.specs.Filters.{landmark}
use Rattle.common.proofs.TestLaws.{or_yes, or_no}
use Rattle.filters.proofs.classes.landmark.Goals as goal

pub returns-then-matches_joined : goal.returns-then-matches_joined
unfolding landmark matches_of patterns
returns-then-matches_joined c = or_yes _ (sym c.matches_joined.ensures ∙ c.if-matches_joined.true)

pub returns : goal.returns
unfolding landmark any_match matches_of patterns
returns c = or_no _ (sym c.matches_joined.ensures ∙ c.if-matches_joined.false) c.any_among.ensures
