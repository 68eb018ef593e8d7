-- `write::put_attributes` meets its contract.
use mathlib.Core.Path.{refl}
use Rattle.sheet_form.specs.Decoded.{attribute_numbers}
use Rattle.sheet_form.proofs.Writing.{lines_room, lines_more, lines_end}
use Rattle.sheet_form.proofs.write.put_attributes.Goals as goal

pub put_attribute-at-requires : goal.put_attribute-at-requires
put_attribute-at-requires c = lines_room attribute_numbers 4 _ (λ r. refl) _ _ c.loop-j.invariant c.requires.1 c.loop-j-test.true

pub loop-j-preserved : goal.loop-j-preserved
loop-j-preserved c = lines_more attribute_numbers 4 _ (λ r. refl) _ _ c.loop-j.invariant c.loop-j-test.true c.attribute_at.ensures c.put_attribute-at.ensures

pub returns : goal.returns
returns c = lines_end attribute_numbers 4 _ (λ r. refl) _ _ c.loop-j.invariant c.loop-j-test.false
