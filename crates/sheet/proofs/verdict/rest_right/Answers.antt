-- `verdict::rest_right` meets its contract.
use mathlib.Core.Path.{sym, ◌∙◌}
use Rattle.sheet.proofs.Accepting.{rest_counts, rest_root, rest_attributes}
use Rattle.sheet.proofs.verdict.rest_right.Goals as goal

pub returns-then-counts-l : goal.returns-then-counts-l
returns-then-counts-l c = rest_counts _ _ _ c.if-counts-l.true

pub returns-then-kind_at-ne1 : goal.returns-then-kind_at-ne1
returns-then-kind_at-ne1 c = rest_root _ _ _ c.if-counts-l.false (λ e. c.if-kind_at-ne1.true (c.kind_at.ensures ∙ e))

pub returns : goal.returns
returns c = c.attributes_right.ensures ∙ rest_attributes _ _ _ c.if-counts-l.false (sym c.kind_at.ensures ∙ c.if-kind_at-ne1.false)
