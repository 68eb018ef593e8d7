-- `verdict::attributes_right` meets its contract.
use mathlib.Core.Path.{sym, ◌∙◌}
use Rattle.sheet.proofs.Accepting.{attributes_bad_right, attributes_noted_right}
use Rattle.sheet.proofs.verdict.attributes_right.Goals as goal

pub returns-in-Err : goal.returns-in-Err
returns-in-Err c = attributes_bad_right _ _ (sym c.read_attributes.ensures ∙ c.in-Err.is)

pub returns-in-Ok : goal.returns-in-Ok
returns-in-Ok c = c.is_clean.ensures ∙ attributes_noted_right _ _ (sym c.read_attributes.ensures ∙ c.in-Ok.is)
