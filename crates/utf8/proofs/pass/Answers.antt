-- `pass` meets its contract.
use lib.ListN.{get_or}
use Rattle.utf8.proofs.Reading.{few_expected}
use Rattle.utf8.proofs.pass.Goals as goal

pub pass_tails-requires : goal.pass_tails-requires
pass_tails-requires c = (c.requires, few_expected _ _ _ (get_or c.args.s.now c.args.i 0) (c.type_inv.s _).fits c.first.ensures, c.first.ensures)
