-- `theorems::theorems` meets its contract.
use Rattle.links.proofs.ExactLaws.{rules_are_exact, elements_are_exact}
use Rattle.links.proofs.ExamplesLaws.{examples_hold, counts_hold}
use Rattle.links.proofs.LinkBounds.{links_by_depth, counts_bounded}
use Rattle.links.proofs.theorems.theorems.Goals as goal

pub returns : goal.returns
returns c = (rules_are_exact, elements_are_exact, links_by_depth, counts_bounded, examples_hold, counts_hold)
