-- `put_collapsed` meets its contract.
use native.Mathlib.Omega.{arith}
use lib.ListN.{get_or}
use Rattle.common.proofs.Puts.{putting_start, putting_more, putting_room, putting_end}
use Rattle.text.specs.Text.{is_space, collapse_by, squeezed}
use Rattle.text.proofs.CollapseLaws.{collapse_then, collapse_done}
use Rattle.text.proofs.put_collapsed.Goals as goal

pub loop-b-init : goal.loop-b-init
unfolding collapse_by
loop-b-init c = putting_start

pub put_squeezed-at-requires : goal.put_squeezed-at-requires
put_squeezed-at-requires c =
    let a = c.args in
    let l = c.loop-b in
    putting_room (squeezed c.is_space-blank.result l.space (get_or a.s.now l.b-index 0)) _ l.invariant (collapse_then is_space l.space _ _ c.loop-b-test.true c.is_space-blank.ensures) (omega (arith, c.requires))

pub loop-b-preserved : goal.loop-b-preserved
loop-b-preserved c =
    let l = c.loop-b in
    putting_more l.invariant (collapse_then is_space l.space _ _ c.loop-b-test.true c.is_space-blank.ensures) c.put_squeezed-at.ensures

pub shape_of-out : goal.shape_of-out
shape_of-out c = c.loop-b.invariant.same

pub returns : goal.returns
returns c = putting_end c.loop-b.invariant (collapse_done is_space _ _ _ c.loop-b-test.false)
