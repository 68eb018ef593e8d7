-- `begin` meets its contract.
use mathlib.Core.Path.{sym, ◌∙◌}
use native.Mathlib.Omega.{arith}
use Rattle.serializer.proofs.StepLaws.{begins_dropped, cell_able, after_limits, after_able, begins}
use Rattle.serializer.proofs.step.begin.Goals as goal

pub returns-then-is_dropped : goal.returns-then-is_dropped
returns-then-is_dropped c = begins_dropped _ _ _ c.rows-a.ensures (sym c.is_dropped.ensures ∙ c.if-is_dropped.true) c.dropped_showing-showing.ensures

pub cell-b-requires : goal.cell-b-requires
cell-b-requires c =
    let a = c.args in
    cell_able a.f a.bullets a.n c.rows-a.ensures c.requires.able (sym c.is_dropped.ensures ∙ c.if-is_dropped.false) c.is_off.ensures

pub after-serializer-requires : goal.after-serializer-requires
after-serializer-requires c =
    let a = c.args in
    let goes = sym c.is_dropped.ensures ∙ c.if-is_dropped.false in
    record { margins_in_bounds = after_limits a.f a.bullets a.n c.rows-a.ensures c.requires.able goes c.is_off.ensures c.cell-b.ensures c.requires.limits; able_listed = after_able a.f a.bullets a.n c.rows-a.ensures c.requires.able goes c.is_off.ensures c.cell-b.ensures }

pub shape_of-cells : goal.shape_of-cells
shape_of-cells c = omega (arith, c.cells-2-1.given, c.cells-1.given)

pub returns : goal.returns
returns c =
    let a = c.args in
    begins a.f a.bullets a.n c.rows-a.ensures c.requires.able (sym c.is_dropped.ensures ∙ c.if-is_dropped.false) c.is_off.ensures c.cell-b.ensures (c.after-serializer.ensures.at _) c.block_before-block.ensures c.is_off-2.ensures c.showing_of-showing.ensures
