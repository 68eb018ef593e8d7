-- `in_place::set_number` meets its contract.
use mathlib.Core.Path.{◌∙◌}
use Rattle.sheet_form.proofs.NumberBytes.{number_set}
use Rattle.sheet_form.proofs.in_place.set_number.Goals as goal

pub returns : goal.returns
returns c =
    let p = c.requires in
    c.put_columns.ensures.bytes ∙ number_set p.0 _ _ _ p.1 p.2
