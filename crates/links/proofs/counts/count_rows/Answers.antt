-- `count_rows` meets its contract.
use Rattle.std.proofs.Common.{◌+◌, refl}
use Rattle.sheet.specs.Layout.{most_depth, depths}
use Rattle.tree.specs.Page.{node_at}
use Rattle.tree.proofs.Column.{below_length, depth_is}
use Rattle.tree.proofs.PageLaws.{is_element}
use Rattle.tree.proofs.SheetColumn.{well_formed}
use Rattle.links.proofs.CountLaws.{zeros, zeros_size, pass_done, pass_beyond, pass_stop, pass_room, pass_more}
use Rattle.links.proofs.Counted.{counted_start}
use Rattle.links.proofs.counts.count_rows.Goals as goal

pub loop-j-init : goal.loop-j-init
loop-j-init c =
    let a = c.args in
    let p = c.requires in (
      depth_is _ _ _ p.1 c.depth_at-d.ensures,
      zeros_size p.3,
      counted_start (node_at a.s.now a.l) (depths a.s.now a.l) (well_formed p.0) a.i (below_length _ _ _ p.1) (is_element _ _ _ refl p.2) (rw p.3 (zeros (most_depth + 2))),
    )

pub returns-then-r-d : goal.returns-then-r-d
returns-then-r-d c =
    let p = c.requires in
    let v = c.loop-j.invariant in
    rw c.counts.ensures
    (pass_stop p.0 p.1 v.0 v.2 c.loop-j-test.true c.row_at-r.ensures _ c.if-r-d.true)

pub count_row-c-requires : goal.count_row-c-requires
count_row-c-requires c =
    let p = c.requires in
    let v = c.loop-j.invariant in
    (p.0, c.loop-j-test.true, c.row_at-r.ensures, pass_room p.0 p.1 v.0 v.2 c.loop-j-test.true c.row_at-r.ensures v.1 c.if-r-d.false)

pub returns-then-c-most : goal.returns-then-c-most
returns-then-c-most c =
    let p = c.requires in
    let v = c.loop-j.invariant in
    let next = pass_more p.0 p.1 v.0 v.2 c.loop-j-test.true c.row_at-r.ensures v.1 c.if-r-d.false c.count_row-c.ensures.counted c.count_row-c.ensures.links in
    rw c.counts-then-c-most.ensures (pass_beyond p.0 p.1 v.0 next.1 c.if-c-most.true)

pub loop-j-preserved : goal.loop-j-preserved
loop-j-preserved c =
    let p = c.requires in
    let v = c.loop-j.invariant in
    let next = pass_more p.0 p.1 v.0 v.2 c.loop-j-test.true c.row_at-r.ensures v.1 c.if-r-d.false c.count_row-c.ensures.counted c.count_row-c.ensures.links in
    (v.0, next.0, next.1)

pub returns : goal.returns
returns c =
    let p = c.requires in
    let v = c.loop-j.invariant in
    rw c.counts-2.ensures (pass_done p.0 p.1 v.0 v.2 _ c.loop-j-test.false)
