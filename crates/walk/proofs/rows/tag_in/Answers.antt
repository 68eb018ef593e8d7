-- `rows::tag_in` meets its contract.
use native.Mathlib.Omega.{arith}
use Rattle.walk.proofs.RowLaws.{element_tag, other_tag, name_part}
use Rattle.walk.proofs.rows.tag_in.Goals as goal

pub overflow_add-from : goal.overflow_add-from
overflow_add-from c = omega (arith, c.requires.0, c.requires.1.size, c.requires.2)

pub overflow_add-to : goal.overflow_add-to
overflow_add-to c = omega (arith, c.requires.0, c.requires.1.size, c.requires.2)

pub slice_bounds-tag_of-end : goal.slice_bounds-tag_of-end
slice_bounds-tag_of-end c = omega (arith, c.requires.0, c.requires.1.size, c.requires.2)

pub returns-then-r-eq1 : goal.returns-then-r-eq1
returns-then-r-eq1 c = λ i e. element_tag _ _ i e c.tag_of.ensures c.if-r-eq1.true (name_part _ c.args.l _ _ _ c.requires.0)

pub returns-else-r-eq1 : goal.returns-else-r-eq1
returns-else-r-eq1 c = λ i e. other_tag _ _ i e c.if-r-eq1.false
