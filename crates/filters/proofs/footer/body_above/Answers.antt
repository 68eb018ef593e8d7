-- `footer::body_above` meets its contract.
use mathlib.Core.Path.{sym, ◌∙◌}
use native.Mathlib.Omega.{arith}
use Rattle.sheet.specs.Layout.{depths}
use Rattle.tree.specs.Page.{node_at}
use Rattle.filters.proofs.FooterLaws.{parent_before, body_found, body_none, body_up, body_end}
use Rattle.filters.proofs.footer.body_above.Goals as goal

pub returns-then-is_body : goal.returns-then-is_body
returns-then-is_body c = body_found (node_at c.args.s.now c.args.l) (depths c.args.s.now c.args.l) _ _ c.loop-row.invariant.1 (sym c.is_body.ensures ∙ c.if-is_body.true)

pub returns-in_default : goal.returns-in_default
returns-in_default c = body_none (node_at c.args.s.now c.args.l) (depths c.args.s.now c.args.l) _ _ c.loop-row.invariant.1 (sym c.is_body.ensures ∙ c.if-is_body.false) (sym c.parent.ensures ∙ c.in_default.is)

pub loop-row-smaller : goal.loop-row-smaller
loop-row-smaller c = parent_before (depths c.args.s.now c.args.l) _ _ (sym c.parent.ensures ∙ c.in-Some.is)

pub loop-row-preserved : goal.loop-row-preserved
loop-row-preserved c = (
  omega (arith, parent_before (depths c.args.s.now c.args.l) c.loop-row.row c.in-Some.above (sym c.parent.ensures ∙ c.in-Some.is)),
  body_up (node_at c.args.s.now c.args.l) (depths c.args.s.now c.args.l) _ _ c.loop-row.invariant.1 _ (sym c.is_body.ensures ∙ c.if-is_body.false) (sym c.parent.ensures ∙ c.in-Some.is),
)

pub returns : goal.returns
returns c = body_end (node_at c.args.s.now c.args.l) (depths c.args.s.now c.args.l) _ _ c.loop-row.invariant.1 c.loop-row-test.false
