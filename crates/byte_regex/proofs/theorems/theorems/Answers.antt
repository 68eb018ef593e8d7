-- `theorems::theorems` meets its contract.
use Rattle.byte_regex.proofs.MatchLaws.{finds_exactly}
use Rattle.byte_regex.proofs.theorems.theorems.Goals as goal

pub returns : goal.returns
returns c = finds_exactly
