-- `classes::skip_link` meets its contract.
use mathlib.Core.Path.{sym, ◌∙◌}
use Rattle.patterns.specs.Match.{matches_of}
use Rattle.patterns.specs.Patterns.{patterns}
use Rattle.common.proofs.TestLaws.{and_yes}
use Rattle.filters.proofs.classes.skip_link.Goals as goal

pub returns-then-is_a_div_or_li : goal.returns-then-is_a_div_or_li
unfolding matches_of patterns
returns-then-is_a_div_or_li c = and_yes _ (sym c.is_a_div_or_li.ensures ∙ c.if-is_a_div_or_li.true) c.matches_among.ensures
