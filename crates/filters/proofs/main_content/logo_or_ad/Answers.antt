-- `main_content::logo_or_ad` meets its contract.
use mathlib.Core.Bool.{◌||◌}
use mathlib.Core.Path.{◌≡◌, refl, ◌∙◌}
use Rattle.byte_regex.specs.Joined.{joined}
use Rattle.byte_regex.specs.Match.{finds}
use Rattle.patterns.specs.Match.{matches_of}
use Rattle.patterns.specs.Patterns.{patterns, ads_cls}
use Rattle.filters.specs.Filters.{ad_attribute, logo_or_ad}
use Rattle.common.proofs.TestLaws.{or_no}
use Rattle.filters.proofs.ValueLaws.{so_far, joined_four}
use Rattle.filters.proofs.main_content.logo_or_ad.Goals.{then-matches_among, else-matches_among, then-matches_among-2, else-matches_among-2}
use Rattle.filters.proofs.main_content.logo_or_ad.Goals as goal

pub returns-then-ad_attribute : goal.returns-then-ad_attribute
unfolding logo_or_ad matches_of patterns
returns-then-ad_attribute c = λ s l attributes g.
    let two : c.if-matches_among.value ≡ (c.matches_among.result || finds ads_cls (joined c.args.class.now c.args.id.now)) =
    elim c.if-matches_among.branch [
      | then-matches_among w ↦ so_far _ w.value-is w.if-matches_among.true
      | else-matches_among w ↦ or_no _ w.if-matches_among.false (w.value-is ∙ w.matches_among-else-matches_among.ensures)
    ]
    in
    let three : c.if-matches_among-2.value ≡ (c.if-matches_among.value || ad_attribute attributes) =
    elim c.if-matches_among-2.branch [
      | then-matches_among-2 w ↦ so_far _ w.value-is w.if-matches_among-2.true
      | else-matches_among-2 w ↦ or_no _ w.if-matches_among-2.false (w.value-is ∙ w.ad_attribute.ensures s l attributes g)
    ]
    in
    joined_four _ _ _ _ c.matches_among.ensures two three (so_far _ refl c.if-ad_attribute.true)

pub returns-else-ad_attribute : goal.returns-else-ad_attribute
unfolding logo_or_ad matches_of patterns
returns-else-ad_attribute c = λ s l attributes g.
    let two : c.if-matches_among.value ≡ (c.matches_among.result || finds ads_cls (joined c.args.class.now c.args.id.now)) =
    elim c.if-matches_among.branch [
      | then-matches_among w ↦ so_far _ w.value-is w.if-matches_among.true
      | else-matches_among w ↦ or_no _ w.if-matches_among.false (w.value-is ∙ w.matches_among-else-matches_among.ensures)
    ]
    in
    let three : c.if-matches_among-2.value ≡ (c.if-matches_among.value || ad_attribute attributes) =
    elim c.if-matches_among-2.branch [
      | then-matches_among-2 w ↦ so_far _ w.value-is w.if-matches_among-2.true
      | else-matches_among-2 w ↦ or_no _ w.if-matches_among-2.false (w.value-is ∙ w.ad_attribute.ensures s l attributes g)
    ]
    in
    joined_four _ _ _ _ c.matches_among.ensures two three (or_no _ c.if-ad_attribute.false c.matches_among-else-ad_attribute.ensures)
