-- `put_escaped` meets its contract.
use native.Mathlib.Omega.{arith}
use lib.ListN.{get_or}
use Rattle.common.proofs.Puts.{putting_start, putting_more, putting_room, putting_end}
use Rattle.text.specs.Text.{escaped}
use Rattle.text.proofs.EscapeLaws.{escape_next, escape_done}
use Rattle.text.proofs.put_escaped.Goals as goal

pub loop-b-init : goal.loop-b-init
loop-b-init c = putting_start

pub put_entity-at-requires : goal.put_entity-at-requires
put_entity-at-requires c =
    let a = c.args in
    let l = c.loop-b in
    putting_room (escaped (get_or a.s.now l.b-index 0)) _ l.invariant (escape_next _ _ c.loop-b-test.true) (omega (arith, c.requires))

pub loop-b-preserved : goal.loop-b-preserved
loop-b-preserved c =
    let l = c.loop-b in
    putting_more l.invariant (escape_next _ _ c.loop-b-test.true) c.put_entity-at.ensures

pub shape_of-out : goal.shape_of-out
shape_of-out c = c.loop-b.invariant.same

pub returns : goal.returns
returns c = putting_end c.loop-b.invariant (escape_done _ _ c.loop-b-test.false)
