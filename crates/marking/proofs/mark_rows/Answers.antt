-- `mark_rows` meets its contract.
use native.Mathlib.Omega.{arith}
use Rattle.sheet_form.proofs.AcceptedSheet.{decodes}
use Rattle.marking.proofs.MarkingRows.{marking_start, marking_lined, marking_end, marking_name, marking_stop, marking_more, marking_room}
use Rattle.marking.proofs.mark_rows.Goals as goal

pub depth_at-d-requires : goal.depth_at-d-requires
depth_at-d-requires c = let a = decodes c.requires in (a.lined, a.root_there)

pub overflow_step-i : goal.overflow_step-i
overflow_step-i c = omega (arith, (decodes c.requires).root_there)

pub loop-i-init : goal.loop-i-init
loop-i-init c = marking_start _ _ _ _ (decodes c.requires)

pub depth_at-requires : goal.depth_at-requires
depth_at-requires c =
    let a = decodes c.requires in
    (marking_lined _ _ _ _ a c.loop-i.invariant, c.loop-i-test.true)

pub returns-then-depth_at-d : goal.returns-then-depth_at-d
returns-then-depth_at-d c =
    let root_depth = c.depth_at-d.ensures in
    let row_depth = c.depth_at.ensures in
    let all = marking_stop _ _ _ _ (decodes c.requires) c.loop-i.invariant c.loop-i-test.true root_depth row_depth c.if-depth_at-d.true in
    record { count = all.0; sheet = all.1 }

pub mark_row-n-requires : goal.mark_row-n-requires
mark_row-n-requires c =
    let a = decodes c.requires in
    let m = c.loop-i.invariant in
    let h = c.loop-i-test.true in
    (marking_lined _ _ _ _ a m, h, marking_name _ _ _ _ a m h)

pub overflow_add-n : goal.overflow_add-n
overflow_add-n c =
    let a = decodes c.requires in
    let root_depth = c.depth_at-d.ensures in
    let row_depth = c.depth_at.ensures in
    let count = c.mark_row-n.ensures.count in
    omega (arith, marking_room _ _ _ _ a c.loop-i.invariant c.loop-i-test.true root_depth row_depth c.if-depth_at-d.false count)

pub loop-i-preserved : goal.loop-i-preserved
loop-i-preserved c =
    let a = decodes c.requires in
    let x = c.mark_row-n.ensures in
    let root_depth = c.depth_at-d.ensures in
    let row_depth = c.depth_at.ensures in
    marking_more _ _ _ _ a c.loop-i.invariant c.loop-i-test.true root_depth row_depth c.if-depth_at-d.false x.count x.sheet

pub returns : goal.returns
returns c =
    let a = decodes c.requires in
    let all = marking_end _ _ _ _ a c.loop-i.invariant c.loop-i-test.false in
    record { count = all.0; sheet = all.1 }
