-- `theorems::theorems` meets its contract.
use Rattle.quotient.proofs.QuotientLaws.{quotient_lt, fifth_is, three_fifths_is}
use Rattle.quotient.proofs.theorems.theorems.Goals as goal

pub returns : goal.returns
returns c = (quotient_lt, fifth_is, three_fifths_is)
