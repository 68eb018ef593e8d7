-- `measure` meets its contract.
use native.Mathlib.Omega.{arith}
use Rattle.unescape.proofs.MeasureLaws.{measuring_start, measuring_stands, measuring_room}
use Rattle.unescape.proofs.MeasureLaws.{measuring_more, measuring_wrong, measuring_end}
use Rattle.unescape.proofs.measure.Goals as goal

pub loop-i-init : goal.loop-i-init
loop-i-init c = measuring_start c.next_ampersand-i.ensures

pub returns-then-p-eq1 : goal.returns-then-p-eq1
returns-then-p-eq1 c =
    let m = c.loop-i.invariant in
    measuring_wrong m (measuring_stands m c.loop-i-test.true c.part_at-p.ensures) c.if-p-eq1.true

pub overflow_sub-n : goal.overflow_sub-n
overflow_sub-n c = (measuring_stands c.loop-i.invariant c.loop-i-test.true c.part_at-p.ensures).not_empty

pub overflow_sub-n-in-loop-i : goal.overflow_sub-n-in-loop-i
overflow_sub-n-in-loop-i c =
    let m = c.loop-i.invariant in
    measuring_room m (measuring_stands m c.loop-i-test.true c.part_at-p.ensures)

pub overflow_add-i : goal.overflow_add-i
overflow_add-i c =
    let t = measuring_stands c.loop-i.invariant c.loop-i-test.true c.part_at-p.ensures in
    record { fits = omega (arith, t.within, c.well_formed) }

pub next_ampersand-i-requires-in-loop-i : goal.next_ampersand-i-requires-in-loop-i
next_ampersand-i-requires-in-loop-i c = (measuring_stands c.loop-i.invariant c.loop-i-test.true c.part_at-p.ensures).within

pub loop-i-smaller : goal.loop-i-smaller
loop-i-smaller c =
    let t = measuring_stands c.loop-i.invariant c.loop-i-test.true c.part_at-p.ensures in
    omega (arith, c.loop-i-test.true, c.next_ampersand-i-in-loop-i.ensures.free.ordered, t.not_empty)

pub loop-i-preserved : goal.loop-i-preserved
loop-i-preserved c =
    let m = c.loop-i.invariant in
    let t = measuring_stands m c.loop-i-test.true c.part_at-p.ensures in
    measuring_more m t c.if-p-eq1.false c.next_ampersand-i-in-loop-i.ensures

pub returns : goal.returns
returns c = measuring_end c.loop-i.invariant c.loop-i-test.false
