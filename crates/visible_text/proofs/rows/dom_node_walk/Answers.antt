-- `dom_node_walk` meets its contract.
use native.Mathlib.Omega.{arith}
use mathlib.Core.Path.{refl}
use Rattle.tree.proofs.PageLaws.{name_fits}
use Rattle.visible_text.proofs.LeftLaws.{left_start, left_more, left_part, left_ready, left_end, left_length, ready_as, does_as}
use Rattle.visible_text.proofs.PassLaws.{starts, stands_first, all_ends, fits, ends_then, begins_then, goes_on, stands_then}
use Rattle.visible_text.proofs.RiseLaws.{remaining_rises}
use Rattle.visible_text.proofs.rows.dom_node_walk.Goals as goal

pub depth_at-base-requires : goal.depth_at-base-requires
depth_at-base-requires c = (c.requires.accepted.0.lined, c.requires.accepted.1)

pub overflow_add-k : goal.overflow_add-k
overflow_add-k c = omega (arith, c.requires.accepted.0.sized.nodes, c.requires.accepted.1)

pub loop-k-init : goal.loop-k-init
loop-k-init c = (
  stands_first c.requires.accepted.0 _ c.requires.accepted.1
      c.depth_at-base.ensures,
  left_start _ (starts _ _ _ c.requires.accepted.1 c.depth_at-base.ensures),
)

pub row_at-r-requires : goal.row_at-r-requires
row_at-r-requires c = (c.requires.accepted.0.lined, c.loop-k-test.true)

pub end_rows-requires : goal.end_rows-requires
end_rows-requires c =
    let v = c.loop-k.invariant in
    let p = c.requires in (
      v.0.room,
      ready_as (all_ends p.accepted.0 v.0 (λ g. rw c.row_at-r.ensures at c.if-r-base.true))
          (left_ready v.1 p.ready_by),
    )

pub shape_of-steps-then-r-base : goal.shape_of-steps-then-r-base
shape_of-steps-then-r-base c = c.loop-k.invariant.0.long

pub shape_of-out-then-r-base : goal.shape_of-out-then-r-base
shape_of-out-then-r-base c = omega (
  arith,
  c.out-1.given,
  left_length
      c.loop-k.invariant.1
      c.requires.ready_by,
)

pub returns-then-r-base : goal.returns-then-r-base
returns-then-r-base c =
    let v = c.loop-k.invariant in
    let p = c.requires in
    left_end v.1 (does_as (all_ends p.accepted.0 v.0
    (λ g. rw c.row_at-r.ensures at
    c.if-r-base.true)) c.end_rows.ensures)

pub overflow_sub-depth : goal.overflow_sub-depth
overflow_sub-depth c = omega (arith, c.if-r-base.false)

pub end_rows-q-requires : goal.end_rows-q-requires
end_rows-q-requires c =
    let v = c.loop-k.invariant in
    let p = c.requires in (
      v.0.room,
      left_part v.1 _ _ (ends_then p.accepted.0 v.0 c.loop-k-test.true
          c.row_at-r.ensures c.if-r-base.false p.accepted.2)
          (remaining_rises _ _ _ _ _) p.ready_by,
    )

pub step_in-step-requires : goal.step_in-step-requires
step_in-step-requires c =
    let p = c.requires in (
      p.accepted.0.lined,
      name_fits _ _ _ c.row_at-r.ensures p.accepted.0
          c.loop-k-test.true,
    )

pub begin-q-requires : goal.begin-q-requires
begin-q-requires c =
    let v = c.loop-k.invariant in
    let p = c.requires in
    let h = c.loop-k-test.true in
    let r = c.row_at-r.ensures in
    let g = c.if-r-base.false in
    let step = c.step_in-step.ensures _ r in
    record {
      accepted = (p.accepted.0, h, r, step);
      ready_by = left_part (left_more v.1 _ c.end_rows-q.ensures (ends_then p.accepted.0 v.0 h r g p.accepted.2)) _
          _
          (begins_then p.accepted.0 v.0 h r g p.accepted.2 step refl) (remaining_rises _ _ _ _ _) p.ready_by;
    }

pub overflow_sub-steps : goal.overflow_sub-steps
overflow_sub-steps c = omega (arith, c.if-r-base.false)

pub bounds-steps-depth : goal.bounds-steps-depth
bounds-steps-depth c =
    let v = c.loop-k.invariant in
    let p = c.requires in
    omega (
      arith,
      fits p.accepted.0 v.0
          c.loop-k-test.true
          c.row_at-r.ensures
          c.if-r-base.false p.accepted.2,
      c.if-r-base.false,
    )

pub next_row-k-requires : goal.next_row-k-requires
next_row-k-requires c = (c.requires.accepted.0, c.loop-k-test.true)

pub loop-k-smaller : goal.loop-k-smaller
loop-k-smaller c =
    let v = c.loop-k.invariant in
    let p = c.requires in
    let h = c.loop-k-test.true in
    let r = c.row_at-r.ensures in
    omega (
      arith,
      h,
      goes_on p.accepted.0 v.0 h r
          c.if-r-base.false p.accepted.2
          (c.step_in-step.ensures _ r) c.next_row-k.ensures,
    )

pub loop-k-preserved : goal.loop-k-preserved
loop-k-preserved c =
    let v = c.loop-k.invariant in
    let p = c.requires in
    let h = c.loop-k-test.true in
    let r = c.row_at-r.ensures in
    let g = c.if-r-base.false in
    let step = c.step_in-step.ensures _ r in (
      stands_then p.accepted.0 v.0 h r g p.accepted.2 step c.next_row-k.ensures,
      left_more (left_more v.1 _ c.end_rows-q.ensures
          (ends_then p.accepted.0 v.0 h r g p.accepted.2)) _
          c.begin-q.ensures (begins_then p.accepted.0 v.0 h r g p.accepted.2 step c.next_row-k.ensures),
    )

pub end_rows-requires-2 : goal.end_rows-requires-2
end_rows-requires-2 c =
    let v = c.loop-k.invariant in
    let p = c.requires in (
      v.0.room,
      ready_as (all_ends p.accepted.0 v.0 (λ g. absurd (omega (arith, c.loop-k-test.false))))
          (left_ready v.1 p.ready_by),
    )

pub shape_of-steps : goal.shape_of-steps
shape_of-steps c = c.loop-k.invariant.0.long

pub shape_of-out : goal.shape_of-out
shape_of-out c = omega (
  arith,
  c.out-2-1.given,
  left_length c.loop-k.invariant.1
      c.requires.ready_by,
)

pub returns : goal.returns
returns c =
    let v = c.loop-k.invariant in
    let p = c.requires in
    left_end v.1 (does_as (all_ends p.accepted.0 v.0
    (λ g. absurd (omega (arith, c.loop-k-test.false)))) c.end_rows-2.ensures)
