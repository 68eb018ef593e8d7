-- `main_content::by_attributes` meets its contract.
use mathlib.Core.Path.{refl, sym, ◌∙◌}
use Rattle.filters.specs.Filters.{by_attributes}
use Rattle.filters.proofs.NameLaws.{not_div_named}
use Rattle.filters.proofs.StageLaws.{by_values}
use Rattle.common.proofs.TestLaws.{cond_yes, cond_no}
use Rattle.filters.proofs.main_content.by_attributes.Goals as goal

pub returns-then-hidden_by_attribute : goal.returns-then-hidden_by_attribute
unfolding by_attributes
returns-then-hidden_by_attribute c = λ attributes g. cond_yes _ (sym (c.hidden_by_attribute.ensures attributes g) ∙ c.if-hidden_by_attribute.true) refl

pub returns-then-not_displayed : goal.returns-then-not_displayed
returns-then-not_displayed c = λ attributes g. by_values _ _ _ _ g c.value-class.ensures.0 c.value-id.ensures.0 c.value-style.ensures.0 (cond_no _ (sym (c.hidden_by_attribute.ensures attributes g) ∙ c.if-hidden_by_attribute.false) (cond_yes _ (sym c.not_displayed.ensures ∙ c.if-not_displayed.true) refl))

pub returns-then-are_empty : goal.returns-then-are_empty
returns-then-are_empty c = λ attributes g. by_values _ _ _ _ g c.value-class.ensures.0 c.value-id.ensures.0 c.value-style.ensures.0 (cond_no _ (sym (c.hidden_by_attribute.ensures attributes g) ∙ c.if-hidden_by_attribute.false) (cond_no _ (sym c.not_displayed.ensures ∙ c.if-not_displayed.false) (cond_yes _ (sym c.are_empty.ensures ∙ c.if-are_empty.true) (not_div_named c.args.name.now c.requires.3 _ c.unnamed.ensures))))

pub returns : goal.returns
returns c = λ attributes g. by_values _ _ _ _ g c.value-class.ensures.0 c.value-id.ensures.0 c.value-style.ensures.0 (cond_no _ (sym (c.hidden_by_attribute.ensures attributes g) ∙ c.if-hidden_by_attribute.false) (cond_no _ (sym c.not_displayed.ensures ∙ c.if-not_displayed.false) (cond_no _ (sym c.are_empty.ensures ∙ c.if-are_empty.false) (c.by_class_and_id.ensures attributes g))))
