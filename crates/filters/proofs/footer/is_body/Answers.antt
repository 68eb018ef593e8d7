-- `footer::is_body` meets its contract.
use mathlib.Core.Path.{◌∙◌}
use borrow.Author.Tests.{ne_eqb}
use Rattle.common.specs.Bytes.{codes}
use Rattle.filters.proofs.RowLaws.{body_other, body_named}
use Rattle.filters.proofs.footer.is_body.Goals as goal

pub returns-else-row-eq1 : goal.returns-else-row-eq1
returns-else-row-eq1 c = ne_eqb _ _ c.if-row-eq1.false ∙ body_other c.args.s.now c.args.l c.args.i c.row_at-row.ensures c.if-row-eq1.false

pub returns-then-row-eq1 : goal.returns-then-row-eq1
unfolding codes
returns-then-row-eq1 c = body_named c.args.s.now c.args.l c.args.i c.row_at-row.ensures c.if-row-eq1.true c.part.ensures c.same.ensures
