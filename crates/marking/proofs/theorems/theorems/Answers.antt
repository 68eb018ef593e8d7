-- `theorems::theorems` meets its contract.
use Rattle.marking.proofs.ExampleLaws.{examples_right}
use Rattle.marking.proofs.MarkedSheet.{sheet_marked}
use Rattle.marking.proofs.theorems.theorems.Goals as goal

pub returns : goal.returns
returns c = record { marked = sheet_marked; examples = examples_right }
