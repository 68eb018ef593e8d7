-- `theorems::theorems` meets its contract.
use Rattle.patterns.proofs.ExampleLaws.{examples_are_right}
use Rattle.patterns.proofs.MatchLaws.{matches_exactly}
use Rattle.patterns.proofs.StepNumbers.{stay_inside_law}
use Rattle.patterns.proofs.theorems.theorems.Goals as goal

pub returns : goal.returns
returns c = (matches_exactly, stay_inside_law, examples_are_right)
