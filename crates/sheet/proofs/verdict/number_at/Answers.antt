-- `verdict::number_at` meets its contract.
use mathlib.Core.Path.{ap, ◌∙◌}
use Rattle.sheet.specs.Lines.{number_in, field_at}
use Rattle.sheet.proofs.verdict.number_at.Goals as goal

pub returns : goal.returns
unfolding field_at
returns c = c.unwrap_or.ensures ∙ ap number_in c.read_field.ensures
