-- `main_content::by_block` meets its contract.
use mathlib.Core.Bool.{not}
use mathlib.Core.Path.{refl, sym, ap, ◌∙◌}
use lib.Dec.{ltb}
use Rattle.filters.specs.Filters.{by_block}
use Rattle.filters.proofs.NameLaws.{article_named, div_cluster_named}
use Rattle.common.proofs.TestLaws.{cond_yes, cond_no}
use Rattle.filters.proofs.main_content.by_block.Goals as goal

pub returns-then-rel_main : goal.returns-then-rel_main
unfolding by_block
returns-then-rel_main c = λ name attributes tag_is g. cond_yes _ (sym (c.rel_main.ensures attributes g) ∙ c.if-rel_main.true) refl

pub returns-then-role_outside : goal.returns-then-role_outside
unfolding by_block
returns-then-role_outside c = λ name attributes tag_is g. cond_no _ (sym (c.rel_main.ensures attributes g) ∙ c.if-rel_main.false) (cond_yes _ (sym (c.role_outside.ensures attributes g) ∙ c.if-role_outside.true) refl)

pub returns-then-comment_section : goal.returns-then-comment_section
unfolding by_block
returns-then-comment_section c = λ name attributes tag_is g. cond_no _ (sym (c.rel_main.ensures attributes g) ∙ c.if-rel_main.false) (cond_no _ (sym (c.role_outside.ensures attributes g) ∙ c.if-role_outside.false) (cond_yes _ (sym c.comment_section.ensures ∙ c.if-comment_section.true) refl))

pub returns-then-article : goal.returns-then-article
unfolding by_block
returns-then-article c = λ name attributes tag_is g. cond_no _ (sym (c.rel_main.ensures attributes g) ∙ c.if-rel_main.false) (cond_no _ (sym (c.role_outside.ensures attributes g) ∙ c.if-role_outside.false) (cond_no _ (sym c.comment_section.ensures ∙ c.if-comment_section.false) (cond_yes _ (sym (article_named name tag_is _ c.article.ensures) ∙ c.if-article.true) refl)))

pub returns-then-landmark : goal.returns-then-landmark
unfolding by_block
returns-then-landmark c = λ name attributes tag_is g. cond_no _ (sym (c.rel_main.ensures attributes g) ∙ c.if-rel_main.false) (cond_no _ (sym (c.role_outside.ensures attributes g) ∙ c.if-role_outside.false) (cond_no _ (sym c.comment_section.ensures ∙ c.if-comment_section.false) (cond_no _ (sym (article_named name tag_is _ c.article.ensures) ∙ c.if-article.false) (cond_yes _ (sym c.landmark.ensures ∙ c.if-landmark.true) refl))))

pub returns : goal.returns
unfolding by_block
returns c = λ name attributes tag_is g. cond_no _ (sym (c.rel_main.ensures attributes g) ∙ c.if-rel_main.false) (cond_no _ (sym (c.role_outside.ensures attributes g) ∙ c.if-role_outside.false) (cond_no _ (sym c.comment_section.ensures ∙ c.if-comment_section.false) (cond_no _ (sym (article_named name tag_is _ c.article.ensures) ∙ c.if-article.false) (cond_no _ (sym c.landmark.ensures ∙ c.if-landmark.false) (ap not (div_cluster_named name tag_is (ltb 2 c.args.depth) _ c.div_cluster.ensures))))))
