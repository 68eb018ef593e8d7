-- `unescape` meets its contract.
use Rattle.unescape.proofs.AnswerLaws.{answer_fits, answer_ends, answer_written}
use Rattle.unescape.proofs.unescape.Goals as goal

pub put_unescaped-n-requires : goal.put_unescaped-n-requires
put_unescaped-n-requires c =
    let a = c.args in
    answer_fits a.s.now a.out.now c.measure.ensures c.in_ok-need.was c.if-out-need.false

pub clear-requires : goal.clear-requires
clear-requires c =
    let a = c.args in
    answer_ends a.s.now a.out.now c.measure.ensures c.in_ok-need.was
    c.if-out-need.false c.put_unescaped-n.ensures

pub returns : goal.returns
returns c =
    let a = c.args in
    let all = answer_written a.s.now a.out.now c.measure.ensures c.in_ok-need.was
    c.if-out-need.false c.put_unescaped-n.ensures c.clear.ensures in
    record { answer = all.0; buffer = all.1 }
