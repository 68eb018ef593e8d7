-- `attributes::Slots::gather` meets its contract.
use native.Mathlib.Omega.{arith}
use Rattle.filters.proofs.AttributeLaws.{slots_start, slots_step, value_fits, number_small, number_of_part}
use Rattle.filters.proofs.attributes.Slots.gather.Goals as goal

pub loop-n-init : goal.loop-n-init
loop-n-init c = (omega arith, slots_start _ _ _ _ c.requires.2)

pub offset_bounds-self-k : goal.offset_bounds-self-k
offset_bounds-self-k c = omega (arith, number_small _ c.attribute_number-k.ensures)

pub bounds-self-k : goal.bounds-self-k
bounds-self-k c = number_small _ c.attribute_number-k.ensures

pub loop-n-preserved : goal.loop-n-preserved
loop-n-preserved c = (
  omega arith,
  slots_step _ _ _ _ _ c.loop-n-test.true c.loop-n.invariant.0 c.loop-n.invariant.1 c.attribute_at-a.ensures
      (value_fits _ _ c.requires.0 _ (omega arith) c.attribute_at-a.ensures)
      (number_of_part _ _ _ c.attribute_at-a.ensures c.part.ensures c.attribute_number-k.ensures),
)
