-- `theorems` meets its contract.
use Rattle.sheet.proofs.Acceptance.{accepts}
use Rattle.sheet.proofs.Accepting.{row_by_row}
use Rattle.sheet.proofs.ColumnsLaws.{reads_back}
use Rattle.sheet.proofs.theorems.theorems.Goals as goal

pub returns : goal.returns
returns c = (reads_back, λ w h s l e. accepts h e, row_by_row)
