-- `theorems` meets its contract.
use Rattle.printing.proofs.ColumnLaws.{lines_fit}
use Rattle.printing.proofs.theorems.theorems.Goals as goal

pub returns : goal.returns
returns c = lines_fit
