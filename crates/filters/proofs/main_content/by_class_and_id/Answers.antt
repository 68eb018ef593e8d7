-- `main_content::by_class_and_id` meets its contract.
use mathlib.Core.Path.{refl, sym, ◌∙◌}
use Rattle.filters.specs.Filters.{by_class_and_id}
use Rattle.filters.proofs.NameLaws.{skip_link_named}
use Rattle.common.proofs.TestLaws.{cond_yes, cond_no}
use Rattle.filters.proofs.main_content.by_class_and_id.Goals as goal

pub returns-then-skip_link : goal.returns-then-skip_link
unfolding by_class_and_id
returns-then-skip_link c = λ attributes g. cond_yes _ (sym (skip_link_named c.args.name.now c.requires.3 _ c.skip_link.ensures) ∙ c.if-skip_link.true) refl

pub returns-then-signin_meta_or_social : goal.returns-then-signin_meta_or_social
unfolding by_class_and_id
returns-then-signin_meta_or_social c = λ attributes g. cond_no _ (sym (skip_link_named c.args.name.now c.requires.3 _ c.skip_link.ensures) ∙ c.if-skip_link.false) (cond_yes _ (sym c.signin_meta_or_social.ensures ∙ c.if-signin_meta_or_social.true) refl)

pub returns-then-logo_or_ad : goal.returns-then-logo_or_ad
unfolding by_class_and_id
returns-then-logo_or_ad c = λ attributes g. cond_no _ (sym (skip_link_named c.args.name.now c.requires.3 _ c.skip_link.ensures) ∙ c.if-skip_link.false) (cond_no _ (sym c.signin_meta_or_social.ensures ∙ c.if-signin_meta_or_social.false) (cond_yes _ (sym (c.logo_or_ad.ensures _ _ attributes g) ∙ c.if-logo_or_ad.true) refl))

pub returns-then-not_block : goal.returns-then-not_block
unfolding by_class_and_id
returns-then-not_block c = λ attributes g. cond_no _ (sym (skip_link_named c.args.name.now c.requires.3 _ c.skip_link.ensures) ∙ c.if-skip_link.false) (cond_no _ (sym c.signin_meta_or_social.ensures ∙ c.if-signin_meta_or_social.false) (cond_no _ (sym (c.logo_or_ad.ensures _ _ attributes g) ∙ c.if-logo_or_ad.false) (cond_yes _ (sym c.not_block.ensures ∙ c.if-not_block.true) refl)))

pub returns : goal.returns
unfolding by_class_and_id
returns c = λ attributes g. cond_no _ (sym (skip_link_named c.args.name.now c.requires.3 _ c.skip_link.ensures) ∙ c.if-skip_link.false) (cond_no _ (sym c.signin_meta_or_social.ensures ∙ c.if-signin_meta_or_social.false) (cond_no _ (sym (c.logo_or_ad.ensures _ _ attributes g) ∙ c.if-logo_or_ad.false) (cond_no _ (sym c.not_block.ensures ∙ c.if-not_block.false) (c.by_block.ensures c.args.name.now attributes c.requires.3 g))))
