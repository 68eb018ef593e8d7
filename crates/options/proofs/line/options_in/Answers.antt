-- `line::options_in` meets its contract.
use Rattle.options.specs.Line.{options_in}
use Rattle.options.proofs.line.options_in.Goals as goal

pub returns : goal.returns
unfolding options_in
returns c = rw c.formatting_of.ensures
