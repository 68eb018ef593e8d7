-- `visible_in` meets its contract.
use native.Mathlib.Omega.{arith}
use Rattle.visible_text.proofs.AnswerLaws.{too_short, write_ready, fits, written}
use Rattle.visible_text.proofs.visible_in.Goals as goal

pub enough-need-requires : goal.enough-need-requires
enough-need-requires c = let p = c.requires in (p.0, p.1, omega arith)

pub returns-then-out-need : goal.returns-then-out-need
returns-then-out-need c =
    let p = c.requires in
    let all = too_short p.0 p.1 (c.enough-need.ensures.same, (c.enough-need.ensures.most, c.enough-need.ensures.need)) c.if-out-need.true in
    record { answer = all.0; buffer = all.1 }

pub dom_node_walk-written-requires : goal.dom_node_walk-written-requires
dom_node_walk-written-requires c =
    let p = c.requires in
    record { accepted = (p.0, p.1, omega (arith, c.steps-2-1.given)); ready_by = write_ready p.0 p.1 (c.enough-need.ensures.same, (c.enough-need.ensures.most, c.enough-need.ensures.need)) c.if-out-need.false }

pub clear-requires : goal.clear-requires
clear-requires c =
    let p = c.requires in
    let enough = c.enough-need.ensures in
    fits p.0 p.1 (enough.same, (enough.most, enough.need)) c.if-out-need.false
    c.dom_node_walk-written.ensures

pub returns : goal.returns
returns c =
    let p = c.requires in
    let enough = c.enough-need.ensures in
    let long = c.if-out-need.false in
    let all = written p.0 p.1 (enough.same, (enough.most, enough.need)) long c.dom_node_walk-written.ensures
    c.clear.ensures in
    record { answer = all.0; buffer = all.1 }
