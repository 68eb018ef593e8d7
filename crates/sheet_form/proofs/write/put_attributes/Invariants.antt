-- `write::put_attributes` meets its contract.
use mathlib.Core.Path.{refl}
use Rattle.common.proofs.Puts.{Putting}
use Rattle.sheet.specs.Layout.{attribute_at}
use Rattle.sheet_form.specs.Decoded.{attribute_numbers}
use Rattle.sheet_form.proofs.Writing.{left, whole}
use Rattle.sheet_form.proofs.write.put_attributes.Given as goal

abbrev pub invariant-loop-j : goal.invariant-loop-j
invariant-loop-j l =
    Putting l.initial.out l.at-2 (whole attribute_numbers 4 l.width (λ r. refl) (attribute_at l.s l.l) l.l.attributes) l.out l.at (left attribute_numbers 4 l.width (λ r. refl) (attribute_at l.s l.l) l.l.attributes l.j)
