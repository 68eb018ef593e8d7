-- `footer::content_follows` meets its contract.
use Rattle.std.specs.Prelude.{is_some}
use mathlib.Core.Bool.{not}
use mathlib.Core.Path.{refl, sym, ap, ◌∙◌}
use borrow.Author.Tests.{ne_eqb}
use Rattle.sheet.specs.Layout.{depths}
use Rattle.tree.specs.Page.{node_at}
use Rattle.tree.proofs.Column.{below_length, past_length, depth_is}
use Rattle.filters.proofs.FooterLaws.{none_behind, none_beside, sibling_behind}
use Rattle.filters.proofs.RowLaws.{is_text, not_text, depth_read}
use Rattle.common.proofs.TestLaws.{or_yes, or_no}
use Rattle.filters.proofs.footer.content_follows.Goals as goal

pub returns-then-l-end : goal.returns-then-l-end
returns-then-l-end c = none_behind (node_at c.args.s.now c.args.l) (depths c.args.s.now c.args.l) _ _ c.requires.2 (past_length _ _ _ c.if-l-end.true)

pub returns-else-next-depth_at : goal.returns-else-next-depth_at
returns-else-next-depth_at c =
    ne_eqb _ _ c.if-next-depth_at.false
    ∙ none_beside (node_at c.args.s.now c.args.l) (depths c.args.s.now c.args.l) _ _ c.requires.2
    (λ e. c.if-next-depth_at.false (depth_read c.args.s.now c.args.l c.args.end c.row_at-next.ensures c.if-l-end.false refl ∙ e ∙ sym (depth_is c.args.s.now c.args.l _ c.requires.1 c.depth_at.ensures)))

pub returns-then-next-ne3 : goal.returns-then-next-ne3
returns-then-next-ne3 c =
    ap not (ne_eqb _ _ c.if-next-ne3.true)
    ∙ sibling_behind (node_at c.args.s.now c.args.l) (depths c.args.s.now c.args.l) _ _ c.requires.2 (below_length c.args.s.now c.args.l _ c.if-l-end.false) (sym (depth_read c.args.s.now c.args.l c.args.end c.row_at-next.ensures c.if-l-end.false refl) ∙ c.if-next-depth_at.true ∙ depth_is c.args.s.now c.args.l _ c.requires.1 c.depth_at.ensures)
    (or_yes _ (not_text c.args.s.now c.args.l _ c.row_at-next.ensures c.if-next-ne3.true))

pub returns-else-next-ne3 : goal.returns-else-next-ne3
returns-else-next-ne3 c =
    sibling_behind (node_at c.args.s.now c.args.l) (depths c.args.s.now c.args.l) _ _ c.requires.2 (below_length c.args.s.now c.args.l _ c.if-l-end.false) (sym (depth_read c.args.s.now c.args.l c.args.end c.row_at-next.ensures c.if-l-end.false refl) ∙ c.if-next-depth_at.true ∙ depth_is c.args.s.now c.args.l _ c.requires.1 c.depth_at.ensures)
    (or_no _ (is_text c.args.s.now c.args.l _ c.row_at-next.ensures c.if-next-ne3.false) (c.is_some.ensures ∙ ap is_some c.next_sibling.ensures))
