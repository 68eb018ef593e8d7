-- `theorems::theorems` meets its contract.
use Rattle.reader.proofs.MarkedLaws.{marked_texts}
use Rattle.reader.proofs.MissingAltLaws.{missing_alt_written}
use Rattle.reader.proofs.theorems.theorems.Goals as goal

pub returns : goal.returns
returns c = record { marked = marked_texts; missing_alt = missing_alt_written }
