-- `grown` meets its contract.
use borrow.Author.Tests.{eq-eqb, ne_eqb}
use Rattle.writer.proofs.OutLaws.{greater_max}
use Rattle.writer.proofs.Writer.grown.Goals.{then-k-eq0, else-k-eq0}
use Rattle.writer.proofs.Writer.grown.Goals as goal

pub returns : goal.returns
returns c = elim c.if-k-eq0.branch [
  | then-k-eq0 w ↦ rw (w.result-is, eq-eqb _ _ w.if-k-eq0.true, c.max.ensures, greater_max)
  | else-k-eq0 w ↦ rw (w.result-is, ne_eqb _ _ w.if-k-eq0.false, c.max.ensures, greater_max)
]
