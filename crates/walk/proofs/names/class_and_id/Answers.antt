-- `names::class_and_id` meets its contract.
use native.Mathlib.Omega.{arith}
use Rattle.common.specs.Bytes.{codes}
use Rattle.tree.proofs.AttributeLines.{name_fits}
use Rattle.walk.proofs.NameLaws.{length_start, length_more, length_all}
use Rattle.walk.proofs.names.class_and_id.Goals as goal

pub loop-n-init : goal.loop-n-init
loop-n-init c = (length_start _ _ _ _ _, length_start _ _ _ _ _)

pub overflow_add-from : goal.overflow_add-from
overflow_add-from c = omega (arith, c.requires.0.sized.attributes)

pub attribute_at-a-requires : goal.attribute_at-a-requires
attribute_at-a-requires c = (c.requires.0.lined, omega arith)

pub part-name-requires : goal.part-name-requires
part-name-requires c = (c.requires.0.lined, name_fits _ _ c.requires.0 _ (omega arith) c.attribute_at-a.ensures)

pub loop-n-smaller : goal.loop-n-smaller
loop-n-smaller c = omega arith

pub loop-n-preserved : goal.loop-n-preserved
unfolding codes
loop-n-preserved c =
    let p = c.requires in (
      length_more _ _ _ _ p.0 p.1 c.loop-n-test.true c.attribute_at-a.ensures c.part-name.ensures c.length_if-class.ensures c.loop-n.invariant.0,
      length_more _ _ _ _ p.0 p.1 c.loop-n-test.true c.attribute_at-a.ensures c.part-name.ensures c.length_if-id.ensures c.loop-n.invariant.1,
    )

pub overflow_add-result : goal.overflow_add-result
overflow_add-result c = omega (arith, c.loop-n.invariant.0.small, c.loop-n.invariant.1.small, c.requires.0.sized.pool)

pub overflow_add-result-2 : goal.overflow_add-result-2
overflow_add-result-2 c = omega (arith, c.loop-n.invariant.0.small, c.loop-n.invariant.1.small, c.requires.0.sized.pool)

pub returns : goal.returns
returns c = rw (length_all _ _ _ _ c.loop-n-test.false c.loop-n.invariant.0, length_all _ _ _ _ c.loop-n-test.false c.loop-n.invariant.1)
