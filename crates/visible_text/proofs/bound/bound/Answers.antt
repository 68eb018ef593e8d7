-- `bound::bound` meets its contract.
use native.Mathlib.Omega.{arith}
use Rattle.visible_text.proofs.BoundLaws.{left_done, left_stop, left_more, sum_room, sum_enough}
use Rattle.visible_text.proofs.bound.bound.Goals as goal

pub depth_at-d-requires : goal.depth_at-d-requires
depth_at-d-requires c = (c.requires.0.lined, c.requires.1)

pub depth_at-requires : goal.depth_at-requires
depth_at-requires c = (c.requires.0.lined, c.loop-j-test.true)

pub returns-then-depth_at-d : goal.returns-then-depth_at-d
returns-then-depth_at-d c =
    let p = c.requires in
    sum_enough p.0 p.1 c.depth_at-d.ensures _ _ c.loop-j.invariant
    (left_stop _ _ _ _ c.loop-j-test.true c.depth_at.ensures c.if-depth_at-d.true)

pub value_len_at-requires : goal.value_len_at-requires
value_len_at-requires c = (c.requires.0.lined, c.loop-j-test.true)

pub overflow_add-n : goal.overflow_add-n
overflow_add-n c =
    let p = c.requires in
    let t = c.loop-j-test.true in
    let d = c.depth_at-d.ensures in
    let more = left_more _ _ _ _ t c.depth_at.ensures c.if-depth_at-d.false in
    omega (arith, sum_room p.0 p.1 d _ _ c.loop-j.invariant more, c.value_len_at.ensures)

pub overflow_add-n-in-loop-j : goal.overflow_add-n-in-loop-j
overflow_add-n-in-loop-j c =
    let p = c.requires in
    let t = c.loop-j-test.true in
    let d = c.depth_at-d.ensures in
    let more = left_more _ _ _ _ t c.depth_at.ensures c.if-depth_at-d.false in
    omega (arith, sum_room p.0 p.1 d _ _ c.loop-j.invariant more, c.value_len_at.ensures)

pub loop-j-preserved : goal.loop-j-preserved
loop-j-preserved c =
    let more = left_more _ _ _ _ c.loop-j-test.true c.depth_at.ensures c.if-depth_at-d.false in
    omega (arith, c.loop-j.invariant, more, c.value_len_at.ensures)

pub returns : goal.returns
returns c =
    let p = c.requires in
    sum_enough p.0 p.1 c.depth_at-d.ensures _ _ c.loop-j.invariant (left_done _ _ _ _ c.loop-j-test.false)
