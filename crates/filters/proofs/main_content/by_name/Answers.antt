-- `main_content::by_name` meets its contract.
use mathlib.Core.Path.{refl, sym, ◌∙◌}
use borrow.Author.Tests.{eq-eqb, ne_eqb}
use Rattle.filters.specs.Filters.{by_name}
use Rattle.filters.proofs.AttributeLaws.{slots_gathered}
use Rattle.filters.proofs.NameLaws.{footer_number, ul_named, article_cluster_named}
use Rattle.common.proofs.TestLaws.{cond_yes, cond_no}
use Rattle.filters.proofs.main_content.by_name.Goals as goal

pub returns-then-is_kept : goal.returns-then-is_kept
unfolding by_name
returns-then-is_kept c = cond_yes _ (sym c.is_kept.ensures ∙ c.if-is_kept.true) refl

pub returns-then-tag-eq-FOOTER : goal.returns-then-tag-eq-FOOTER
unfolding by_name
returns-then-tag-eq-FOOTER c = let name = c.args.name.now in let tag_is = c.requires.2 in cond_no _ (sym c.is_kept.ensures ∙ c.if-is_kept.false) (cond_yes _ (sym (footer_number name tag_is) ∙ eq-eqb _ _ c.if-tag-eq-FOOTER.true) c.footer.ensures)

pub returns-then-ul_cluster : goal.returns-then-ul_cluster
unfolding by_name
returns-then-ul_cluster c = let name = c.args.name.now in let tag_is = c.requires.2 in cond_no _ (sym c.is_kept.ensures ∙ c.if-is_kept.false) (cond_no _ (sym (footer_number name tag_is) ∙ ne_eqb _ _ c.if-tag-eq-FOOTER.false) (cond_yes _ (sym (ul_named name tag_is _ c.ul_cluster.ensures) ∙ c.if-ul_cluster.true) refl))

pub returns-then-article_cluster : goal.returns-then-article_cluster
unfolding by_name
returns-then-article_cluster c = let name = c.args.name.now in let tag_is = c.requires.2 in cond_no _ (sym c.is_kept.ensures ∙ c.if-is_kept.false) (cond_no _ (sym (footer_number name tag_is) ∙ ne_eqb _ _ c.if-tag-eq-FOOTER.false) (cond_no _ (sym (ul_named name tag_is _ c.ul_cluster.ensures) ∙ c.if-ul_cluster.false) (cond_yes _ (sym (article_cluster_named name tag_is _ c.article_cluster.ensures) ∙ c.if-article_cluster.true) refl)))

pub returns-then-is_dropped : goal.returns-then-is_dropped
unfolding by_name
returns-then-is_dropped c = let name = c.args.name.now in let tag_is = c.requires.2 in cond_no _ (sym c.is_kept.ensures ∙ c.if-is_kept.false) (cond_no _ (sym (footer_number name tag_is) ∙ ne_eqb _ _ c.if-tag-eq-FOOTER.false) (cond_no _ (sym (ul_named name tag_is _ c.ul_cluster.ensures) ∙ c.if-ul_cluster.false) (cond_no _ (sym (article_cluster_named name tag_is _ c.article_cluster.ensures) ∙ c.if-article_cluster.false) (cond_yes _ (sym c.is_dropped.ensures ∙ c.if-is_dropped.true) refl))))

pub returns : goal.returns
unfolding by_name
returns c = let name = c.args.name.now in let tag_is = c.requires.2 in cond_no _ (sym c.is_kept.ensures ∙ c.if-is_kept.false) (cond_no _ (sym (footer_number name tag_is) ∙ ne_eqb _ _ c.if-tag-eq-FOOTER.false) (cond_no _ (sym (ul_named name tag_is _ c.ul_cluster.ensures) ∙ c.if-ul_cluster.false) (cond_no _ (sym (article_cluster_named name tag_is _ c.article_cluster.ensures) ∙ c.if-article_cluster.false) (cond_no _ (sym c.is_dropped.ensures ∙ c.if-is_dropped.false) (c.by_attributes.ensures _ (slots_gathered _ _ c.gather.ensures))))))
