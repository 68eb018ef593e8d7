-- `write::put_rows` meets its contract.
use mathlib.Core.Path.{refl}
use Rattle.sheet_form.specs.Decoded.{row_numbers}
use Rattle.sheet_form.proofs.Writing.{lines_room, lines_more, lines_end}
use Rattle.sheet_form.proofs.write.put_rows.Goals as goal

pub put_row-at-requires : goal.put_row-at-requires
put_row-at-requires c = lines_room row_numbers 8 _ (λ r. refl) _ _ c.loop-i.invariant c.requires.1 c.loop-i-test.true

pub loop-i-preserved : goal.loop-i-preserved
loop-i-preserved c = lines_more row_numbers 8 _ (λ r. refl) _ _ c.loop-i.invariant c.loop-i-test.true c.row_at.ensures c.put_row-at.ensures

pub returns : goal.returns
returns c = lines_end row_numbers 8 _ (λ r. refl) _ _ c.loop-i.invariant c.loop-i-test.false
