-- `notes::read_attributes` meets its contract.
use mathlib.Core.Path.{refl, sym, ◌∙◌}
use native.Mathlib.Omega.{arith}
use Rattle.sheet.proofs.LayoutLaws.{attribute_fits, pool_start_law, pool_part, pool_whole}
use Rattle.sheet.proofs.AttributePass.{attributes_start, attributes_bad, attributes_more, attributes_end}
use Rattle.sheet.proofs.notes.read_attributes.Goals as goal

pub overflow_sub-start : goal.overflow_sub-start
overflow_sub-start c = omega (arith, c.requires.0.size)

pub overflow_mul-step : goal.overflow_mul-step
overflow_mul-step c = omega (arith, c.requires.0.width)

pub overflow_add-step : goal.overflow_add-step
overflow_add-step c = omega (arith, c.requires.0.width)

pub overflow_mul-at : goal.overflow_mul-at
overflow_mul-at c = omega (arith, c.requires.0.width)

pub overflow_add-at : goal.overflow_add-at
overflow_add-at c = omega (arith, c.requires.0.width)

pub overflow_mul-at-2 : goal.overflow_mul-at-2
overflow_mul-at-2 c = omega (arith, c.requires.0.width)

pub overflow_add-at-2 : goal.overflow_add-at-2
overflow_add-at-2 c = omega (arith, c.requires.0.width)

pub overflow_mul-at-3 : goal.overflow_mul-at-3
overflow_mul-at-3 c = omega (arith, c.requires.0.size)

pub overflow_add-at-3 : goal.overflow_add-at-3
overflow_add-at-3 c = omega (arith, c.requires.0.size)

pub loop-j-init : goal.loop-j-init
loop-j-init c = attributes_start _ _

pub read_short_line-requires : goal.read_short_line-requires
read_short_line-requires c =
    let l = c.loop-j in
    let sized = c.requires.0 in
    (omega (arith, l.invariant.place, attribute_fits sized l.j c.loop-j-test.true), omega (arith, sized.width))

pub returns-in_default : goal.returns-in_default
returns-in_default c = attributes_bad _ _ c.loop-j.invariant c.loop-j-test.true (sym c.read_short_line.ensures ∙ c.in_default.is)

pub note_attribute-n-requires : goal.note_attribute-n-requires
note_attribute-n-requires c = let p = c.requires in pool_whole _ c.args.l (pool_start_law p.0) p.1

pub overflow_add-at-in-loop-j : goal.overflow_add-at-in-loop-j
overflow_add-at-in-loop-j c = let l = c.loop-j in omega (arith, l.invariant.place, attribute_fits c.requires.0 l.j c.loop-j-test.true)

pub loop-j-smaller : goal.loop-j-smaller
loop-j-smaller c = omega (arith, c.loop-j-test.true)

pub loop-j-preserved : goal.loop-j-preserved
loop-j-preserved c =
    attributes_more _ _ c.loop-j.invariant c.loop-j-test.true (sym c.read_short_line.ensures ∙ c.in-Some.is) (pool_part _ c.args.l (pool_start_law c.requires.0)) c.note_attribute-n.ensures refl

pub returns : goal.returns
returns c = attributes_end _ _ c.loop-j.invariant c.loop-j-test.false
