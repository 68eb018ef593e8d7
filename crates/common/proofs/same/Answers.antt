-- `same` meets its contract.
use mathlib.Core.Path.{◌∙◌}
use Rattle.common.proofs.Equality.{same_pointwise}
use Rattle.common.proofs.same.Goals as goal

pub returns : goal.returns
returns c = c.eq.ensures ∙ same_pointwise _ _
