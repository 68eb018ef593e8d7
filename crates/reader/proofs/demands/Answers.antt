-- `demands` meets its contract.
use Rattle.reader.proofs.DemandsLaws.{demand_1, demand_2, demand_3}
use Rattle.reader.proofs.PagesLaws.{pages_right}
use Rattle.reader.proofs.demands.Goals as goal

pub returns : goal.returns
returns c = record { every_call = demand_1; as_the_rust = demand_2; blanks_and_pieces = demand_3; pages = pages_right }
