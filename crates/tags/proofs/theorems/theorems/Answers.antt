-- `theorems::theorems` meets its contract.
use Rattle.tags.proofs.TagLaws.{tag_tests, numbers_of_names}
use Rattle.tags.proofs.theorems.theorems.Goals as goal

pub returns : goal.returns
returns c = (tag_tests, numbers_of_names)
