-- `classes::any_among` meets its contract.
use mathlib.Core.Path.{sym, ◌∙◌}
use Rattle.filters.proofs.ClassLaws.{asking_found, asking_more, asking_end}
use Rattle.filters.proofs.classes.any_among.Goals as goal

pub returns-then-matches_among : goal.returns-then-matches_among
returns-then-matches_among c = asking_found _ _ _ _ c.loop-pattern-test.true c.loop-pattern.invariant (sym c.matches_among.ensures ∙ c.if-matches_among.true)

pub loop-pattern-preserved : goal.loop-pattern-preserved
loop-pattern-preserved c = asking_more _ _ _ _ c.loop-pattern-test.true c.loop-pattern.invariant (sym c.matches_among.ensures ∙ c.if-matches_among.false)

pub returns : goal.returns
returns c = asking_end _ _ _ c.loop-pattern-test.false c.loop-pattern.invariant
