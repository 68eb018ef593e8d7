-- `put_unescaped` meets its contract.
use native.Mathlib.Omega.{arith}
use Rattle.unescape.proofs.PutLaws.{first_room, first_then, storing_start, storing_stands}
use Rattle.unescape.proofs.PutLaws.{storing_byte, storing_run, storing_more, storing_end}
use Rattle.unescape.proofs.put_unescaped.Goals as goal

pub put-at-requires : goal.put-at-requires
put-at-requires c = first_room c.next_ampersand-i.ensures c.requires

pub loop-i-init : goal.loop-i-init
loop-i-init c = storing_start c.next_ampersand-i.ensures c.put-at.ensures c.requires

pub bounds-out-at : goal.bounds-out-at
bounds-out-at c =
    let t = c.loop-i.invariant in
    storing_byte t (storing_stands t c.loop-i-test.true c.part_at-p.ensures)

pub overflow_add-past : goal.overflow_add-past
overflow_add-past c =
    let q = storing_stands c.loop-i.invariant c.loop-i-test.true c.part_at-p.ensures in
    record { fits = omega (arith, q.within, c.well_formed) }

pub next_ampersand-i-requires-in-loop-i : goal.next_ampersand-i-requires-in-loop-i
next_ampersand-i-requires-in-loop-i c = (storing_stands c.loop-i.invariant c.loop-i-test.true c.part_at-p.ensures).within

pub put-at-requires-in-loop-i : goal.put-at-requires-in-loop-i
put-at-requires-in-loop-i c =
    let t = c.loop-i.invariant in
    let q = storing_stands t c.loop-i-test.true c.part_at-p.ensures in
    storing_run t q c.next_ampersand-i-in-loop-i.ensures

pub loop-i-smaller : goal.loop-i-smaller
loop-i-smaller c =
    let q = storing_stands c.loop-i.invariant c.loop-i-test.true c.part_at-p.ensures in
    omega (arith, c.loop-i-test.true, c.next_ampersand-i-in-loop-i.ensures.free.ordered, q.not_empty)

pub loop-i-preserved : goal.loop-i-preserved
loop-i-preserved c =
    let t = c.loop-i.invariant in
    let q = storing_stands t c.loop-i-test.true c.part_at-p.ensures in
    storing_more t q c.next_ampersand-i-in-loop-i.ensures c.put-at-in-loop-i.ensures

pub returns : goal.returns
returns c =
    first_then c.next_ampersand-i.ensures c.put-at.ensures
    (storing_end c.loop-i.invariant c.loop-i-test.false)
