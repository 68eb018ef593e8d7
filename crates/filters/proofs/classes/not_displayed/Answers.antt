-- `classes::not_displayed` meets its contract.
use mathlib.Core.Bool.{not, ◌&&◌}
use mathlib.Core.Path.{◌≡◌, sym, ap, ◌∙◌}
use Rattle.patterns.specs.Match.{matches_of}
use Rattle.patterns.specs.Patterns.{patterns, display_cls}
use Rattle.byte_regex.specs.Match.{finds}
use Rattle.filters.specs.Filters.{not_displayed}
use Rattle.common.proofs.TestLaws.{or_yes, or_no, and_yes}
use Rattle.filters.proofs.IconLaws.{and_far}
use Rattle.filters.proofs.classes.not_displayed.Goals.{then-not-hidden_elements, else-not-hidden_elements}
use Rattle.filters.proofs.classes.not_displayed.Goals as goal

pub returns-then-matches_among : goal.returns-then-matches_among
unfolding not_displayed matches_of patterns
returns-then-matches_among c =
    let class : c.if-not-hidden_elements.value ≡ (not c.args.hidden_elements && finds display_cls c.args.class.now) =
    elim c.if-not-hidden_elements.branch [
      | then-not-hidden_elements w ↦ and_yes _ (ap not w.if-not-hidden_elements.true) (w.value-is ∙ w.matches_among.ensures)
      | else-not-hidden_elements w ↦ and_far _ w.value-is (ap not w.if-not-hidden_elements.false)
    ]
    in
    c.if-matches_among.true ∙ or_yes _ (sym class ∙ c.if-matches_among.true)

pub returns-else-matches_among : goal.returns-else-matches_among
unfolding not_displayed matches_of patterns
returns-else-matches_among c =
    let class : c.if-not-hidden_elements.value ≡ (not c.args.hidden_elements && finds display_cls c.args.class.now) =
    elim c.if-not-hidden_elements.branch [
      | then-not-hidden_elements w ↦ and_yes _ (ap not w.if-not-hidden_elements.true) (w.value-is ∙ w.matches_among.ensures)
      | else-not-hidden_elements w ↦ and_far _ w.value-is (ap not w.if-not-hidden_elements.false)
    ]
    in
    or_no _ (sym class ∙ c.if-matches_among.false) c.matches_joined.ensures
