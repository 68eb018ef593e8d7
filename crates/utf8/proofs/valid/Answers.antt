-- `valid` meets its contract.
use mathlib.Core.Path.{sym, ◌∙◌}
use Rattle.utf8.proofs.Reading.{valid_end}
use Rattle.utf8.proofs.valid.Goals as goal

pub returns : goal.returns
returns c = sym (valid_end _ _ c.loop-i-test.false) ∙ c.loop-i.invariant.1
