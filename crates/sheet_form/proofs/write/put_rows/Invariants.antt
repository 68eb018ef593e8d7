-- `write::put_rows` meets its contract.
use mathlib.Core.Path.{refl}
use Rattle.common.proofs.Puts.{Putting}
use Rattle.sheet.specs.Layout.{row_at}
use Rattle.sheet_form.specs.Decoded.{row_numbers}
use Rattle.sheet_form.proofs.Writing.{left, whole}
use Rattle.sheet_form.proofs.write.put_rows.Given as goal

abbrev pub invariant-loop-i : goal.invariant-loop-i
invariant-loop-i l =
    Putting l.initial.out l.at-2 (whole row_numbers 8 l.width (λ r. refl) (row_at l.s l.l) l.l.nodes) l.out l.at (left row_numbers 8 l.width (λ r. refl) (row_at l.s l.l) l.l.nodes l.i)
