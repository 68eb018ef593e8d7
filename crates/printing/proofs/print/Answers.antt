-- `print` meets its contract.
use Rattle.printing.proofs.Printing.{print_padded}
use Rattle.printing.proofs.print.Goals as goal

pub returns : goal.returns
returns c = let x = print_padded _ (c.put_printed-past.ensures.stored, c.put_printed-past.ensures.within) c.clear.ensures in record { stored = x.0; place = x.1; within = x.2 }
