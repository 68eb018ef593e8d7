-- `added::field_value` meets its contract.
use mathlib.Core.Path.{sym, ◌∙◌}
use borrow.Author.Tests.{eqb-true, eqb-false}
use Rattle.common.specs.Bytes.{codes}
use Rattle.tree.specs.Page.{node_at}
use Rattle.collect.proofs.AddedLaws.{field_placeholder, field_own}
use Rattle.collect.proofs.added.field_value.Goals as goal

pub returns-then-is_empty : goal.returns-then-is_empty
unfolding codes
returns-then-is_empty c =
    let n = node_at c.args.s.now c.args.l c.args.v.row in
    field_placeholder n (eqb-true _ _ (sym c.is_empty.ensures ∙ c.if-is_empty.true)) c.trim.ensures c.attribute_or_empty-value.ensures
    c.attribute_or_empty.ensures

pub returns-else-is_empty : goal.returns-else-is_empty
unfolding codes
returns-else-is_empty c =
    let n = node_at c.args.s.now c.args.l c.args.v.row in
    field_own n (eqb-false _ _ (sym c.is_empty.ensures ∙ c.if-is_empty.false)) c.trim.ensures c.attribute_or_empty-value.ensures
