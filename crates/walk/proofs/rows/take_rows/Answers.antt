-- `rows::take_rows` meets its contract.
use mathlib.Core.Path.{refl, sym, ◌∙◌}
use native.Mathlib.Omega.{arith}
use Rattle.common.proofs.Choice.{absurd_test}
use Rattle.sheet.proofs.LayoutLaws.{pool_start_law}
use Rattle.walk.proofs.RowLaws.{taking_start, taking_small, taking_bad, taking_more, taking_end, taken_facts, taken_few, room_at, read_all}
use Rattle.walk.proofs.rows.take_rows.Goals as goal

pub overflow_sub-start : goal.overflow_sub-start
overflow_sub-start c = omega (arith, c.requires.sized.0.size)

pub overflow_mul-step : goal.overflow_mul-step
overflow_mul-step c = omega (arith, c.requires.sized.0.width)

pub overflow_add-step : goal.overflow_add-step
overflow_add-step c = omega (arith, c.requires.sized.0.width)

pub overflow_mul-at : goal.overflow_mul-at
overflow_mul-at c = omega (arith, c.requires.sized.0.width)

pub overflow_add-at : goal.overflow_add-at
overflow_add-at c = omega (arith, c.requires.sized.0.width)

pub loop-i-init : goal.loop-i-init
loop-i-init c = taking_start _ _ _ _ _ _ _ _ _

pub row_in-requires : goal.row_in-requires
row_in-requires c = let p = c.requires.sized in record { start_value = (pool_start_law p.0, p.0, p.1); i_lt_nodes = (c.loop-i-test.true, c.loop-i.invariant.rows.place, c.loop-i.invariant.few) }

pub shape_of-depths-in_default : goal.shape_of-depths-in_default
shape_of-depths-in_default c = c.loop-i.invariant.reading.depths_same

pub shape_of-tags-in_default : goal.shape_of-tags-in_default
shape_of-tags-in_default c = c.loop-i.invariant.reading.tags_same

pub shape_of-attributes-in_default : goal.shape_of-attributes-in_default
shape_of-attributes-in_default c = c.loop-i.invariant.reading.attributes_same

pub shape_of-values-in_default : goal.shape_of-values-in_default
shape_of-values-in_default c = c.loop-i.invariant.reading.values_same

pub shape_of-lengths-in_default : goal.shape_of-lengths-in_default
shape_of-lengths-in_default c = c.loop-i.invariant.reading.lengths_same

pub shape_of-left-in_default : goal.shape_of-left-in_default
shape_of-left-in_default c = c.loop-i.invariant.reading.left_same

pub returns-in_default : goal.returns-in_default
returns-in_default c = record { accepted = taking_bad c.loop-i.invariant c.loop-i-test.true c.requires.sized.0 (sym c.row_in.ensures ∙ c.in_default.is); rows = λ e. absurd_test e refl }

pub overflow_cast-depths : goal.overflow_cast-depths
overflow_cast-depths c = omega (arith, (taken_facts c.loop-i.invariant c.loop-i-test.true (sym c.row_in.ensures ∙ c.in-Some.is) c.requires.sized.0).deep)

pub offset_bounds-depths-i : goal.offset_bounds-depths-i
offset_bounds-depths-i c = omega (arith, c.loop-i-test.true, c.requires.sized.0.nodes)

pub bounds-depths-i : goal.bounds-depths-i
bounds-depths-i c = (room_at c.loop-i.invariant.reading c.requires.columns c.loop-i-test.true).depths_long

pub tag_in-requires : goal.tag_in-requires
tag_in-requires c = (pool_start_law c.requires.sized.0, c.requires.sized.0, (taken_facts c.loop-i.invariant c.loop-i-test.true (sym c.row_in.ensures ∙ c.in-Some.is) c.requires.sized.0).name)

pub bounds-tags-i : goal.bounds-tags-i
bounds-tags-i c = (room_at c.loop-i.invariant.reading c.requires.columns c.loop-i-test.true).tags_long

pub overflow_cast-attributes : goal.overflow_cast-attributes
overflow_cast-attributes c = omega (arith, c.loop-i.invariant.few, c.requires.sized.0.attributes)

pub offset_bounds-attributes-i : goal.offset_bounds-attributes-i
offset_bounds-attributes-i c = omega (arith, c.loop-i-test.true, c.requires.sized.0.nodes)

pub bounds-attributes-i : goal.bounds-attributes-i
bounds-attributes-i c = (room_at c.loop-i.invariant.reading c.requires.columns c.loop-i-test.true).attributes_long

pub overflow_cast-values : goal.overflow_cast-values
overflow_cast-values c = omega (arith, (taken_facts c.loop-i.invariant c.loop-i-test.true (sym c.row_in.ensures ∙ c.in-Some.is) c.requires.sized.0).value, c.requires.sized.0.pool)

pub offset_bounds-values-i : goal.offset_bounds-values-i
offset_bounds-values-i c = omega (arith, c.loop-i-test.true, c.requires.sized.0.nodes)

pub bounds-values-i : goal.bounds-values-i
bounds-values-i c = (room_at c.loop-i.invariant.reading c.requires.columns c.loop-i-test.true).values_long

pub overflow_cast-lengths : goal.overflow_cast-lengths
overflow_cast-lengths c = omega (arith, (taken_facts c.loop-i.invariant c.loop-i-test.true (sym c.row_in.ensures ∙ c.in-Some.is) c.requires.sized.0).value, c.requires.sized.0.pool)

pub offset_bounds-lengths-i : goal.offset_bounds-lengths-i
offset_bounds-lengths-i c = omega (arith, c.loop-i-test.true, c.requires.sized.0.nodes)

pub bounds-lengths-i : goal.bounds-lengths-i
bounds-lengths-i c = (room_at c.loop-i.invariant.reading c.requires.columns c.loop-i-test.true).lengths_long

pub bounds-left-i : goal.bounds-left-i
bounds-left-i c = (room_at c.loop-i.invariant.reading c.requires.columns c.loop-i-test.true).left_long

pub overflow_add-at-in-loop-i : goal.overflow_add-at-in-loop-i
overflow_add-at-in-loop-i c = omega (arith, taking_small c.loop-i.invariant c.loop-i-test.true c.requires.sized.0)

pub overflow_add-first : goal.overflow_add-first
overflow_add-first c = omega (arith, taken_few c.loop-i.invariant c.loop-i-test.true (sym c.row_in.ensures ∙ c.in-Some.is), c.requires.sized.0.attributes)

pub loop-i-smaller : goal.loop-i-smaller
loop-i-smaller c = omega (arith, c.loop-i-test.true)

pub loop-i-preserved : goal.loop-i-preserved
loop-i-preserved c = taking_more c.loop-i.invariant c.loop-i-test.true (sym c.row_in.ensures ∙ c.in-Some.is) c.requires.sized.0 c.requires.columns c.tag_in.ensures c.comment_or_marked.ensures refl

pub rest_right-requires : goal.rest_right-requires
rest_right-requires c = c.requires.sized

pub shape_of-depths : goal.shape_of-depths
shape_of-depths c = c.loop-i.invariant.reading.depths_same

pub shape_of-tags : goal.shape_of-tags
shape_of-tags c = c.loop-i.invariant.reading.tags_same

pub shape_of-attributes : goal.shape_of-attributes
shape_of-attributes c = c.loop-i.invariant.reading.attributes_same

pub shape_of-values : goal.shape_of-values
shape_of-values c = c.loop-i.invariant.reading.values_same

pub shape_of-lengths : goal.shape_of-lengths
shape_of-lengths c = c.loop-i.invariant.reading.lengths_same

pub shape_of-left : goal.shape_of-left
shape_of-left c = c.loop-i.invariant.reading.left_same

pub returns : goal.returns
returns c = record { accepted = c.rest_right.ensures ∙ taking_end c.loop-i.invariant c.loop-i-test.false; rows = λ e. read_all _ _ c.loop-i.invariant.reading.read (omega (arith, c.loop-i-test.false, c.loop-i.invariant.rows.within)) }
