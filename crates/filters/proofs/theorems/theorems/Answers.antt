-- `theorems::theorems` meets its contract.
use Rattle.filters.proofs.ExampleLaws.{examples_are_right}
use Rattle.filters.proofs.PrivateUse.{icons_are_private}
use Rattle.filters.proofs.theorems.theorems.Goals as goal

pub returns : goal.returns
returns c = (icons_are_private, examples_are_right)
