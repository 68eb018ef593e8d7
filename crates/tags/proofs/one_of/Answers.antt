-- `one_of` meets its contract.
use mathlib.Core.Path.{sym, ◌∙◌}
use native.Mathlib.Omega.{arith}
use Rattle.tags.proofs.LineLaws.{seeking_start, seeking_found, seeking_more, seeking_last}
use Rattle.tags.proofs.one_of.Goals as goal

pub loop-to-init : goal.loop-to-init
loop-to-init c = seeking_start _ _ c.word_end-to.ensures

pub slice_bounds-same-count : goal.slice_bounds-same-count
slice_bounds-same-count c = omega (arith, c.loop-to.invariant.word.start)

pub slice_bounds-same-start : goal.slice_bounds-same-start
slice_bounds-same-start c = omega (arith, c.loop-to.invariant.word.start)

pub slice_bounds-same-end : goal.slice_bounds-same-end
slice_bounds-same-end c = omega (arith, c.loop-to.invariant.word.inside)

pub returns-then-same : goal.returns-then-same
returns-then-same c = seeking_found c.loop-to.invariant (sym c.same.ensures ∙ c.if-same.true)

pub overflow_add-from : goal.overflow_add-from
overflow_add-from c = omega arith

pub word_end-to-requires-in-loop-to : goal.word_end-to-requires-in-loop-to
word_end-to-requires-in-loop-to c = omega arith

pub loop-to-smaller : goal.loop-to-smaller
loop-to-smaller c = omega (arith, c.loop-to.invariant.word.start)

pub loop-to-preserved : goal.loop-to-preserved
loop-to-preserved c = seeking_more c.loop-to.invariant c.loop-to-test.true (sym c.same.ensures ∙ c.if-same.false) c.word_end-to-in-loop-to.ensures

pub slice_bounds-same-count-2 : goal.slice_bounds-same-count-2
slice_bounds-same-count-2 c = omega (arith, c.loop-to.invariant.word.start, c.loop-to.invariant.word.inside)

pub slice_bounds-same-start-2 : goal.slice_bounds-same-start-2
slice_bounds-same-start-2 c = omega (arith, c.loop-to.invariant.word.start, c.loop-to.invariant.word.inside)

pub slice_bounds-same-end-2 : goal.slice_bounds-same-end-2
slice_bounds-same-end-2 c = omega arith

pub returns : goal.returns
returns c = seeking_last c.loop-to.invariant c.loop-to-test.false c.same-2.ensures
