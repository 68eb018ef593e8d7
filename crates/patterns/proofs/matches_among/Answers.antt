-- `matches_among` meets its contract.
use mathlib.Core.Path.{sym, ◌∙◌}
use Rattle.byte_regex.specs.Joined.{joined}
use Rattle.patterns.specs.Numbers.{number_of}
use Rattle.patterns.proofs.NumberLaws.{number_lt}
use Rattle.patterns.proofs.SearchLaws.{not_candidate}
use Rattle.patterns.proofs.matches_among.Goals as goal

pub returns-else-has : goal.returns-else-has
returns-else-has c =
    let a = c.args in
    c.if-has.false ∙ not_candidate a.set (number_of a.pattern) (joined a.class.now a.id.now) (number_lt a.pattern) c.requires.1 (sym c.has.ensures ∙ c.if-has.false)
