-- `table::lent_steps` meets its contract.
use Rattle.patterns.proofs.StepNumbers.{step_numbers, steps_are}
use Rattle.patterns.proofs.table.lent_steps.Goals as goal

pub returns : goal.returns
unfolding step_numbers
returns c = steps_are
