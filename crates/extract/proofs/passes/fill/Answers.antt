-- `passes::fill` meets its contract.
use mathlib.Core.Path.{refl}
use Rattle.extract.proofs.ConcludeLaws.{concludes_work, concludes_out}
use Rattle.extract.proofs.RowLaws.{write_ready, written_inside, rows_written, rows_read, not_limit}
use Rattle.extract.proofs.passes.fill.Goals as goal

pub returns-then-work-need : goal.returns-then-work-need
returns-then-work-need c = record { concludes = concludes_work _ _ _ _ c.requires.goes_on.goes_on c.if-work-need.true; counted = refl }

pub returns-then-out-peak : goal.returns-then-out-peak
returns-then-out-peak c = let g = c.requires.goes_on in record { concludes = concludes_out _ _ _ _ g.goes_on c.if-work-need.false g.longest c.clear.ensures c.if-out-peak.true; counted = refl }

pub pass-requires : goal.pass-requires
pass-requires c = record { noted = c.requires.noted; walked = c.requires.walked; write_ready = write_ready c.requires.goes_on c.if-out-peak.false }

pub clear-requires-3 : goal.clear-requires-3
clear-requires-3 c = written_inside c.requires.goes_on c.pass.ensures c.in_ok-p.was

pub returns : goal.returns
returns c =
    let g = c.requires.goes_on in
    let all = c.pass.ensures in
    let e = c.in_ok-p.was in
    record { concludes = rows_written g all e c.if-work-need.false c.if-out-peak.false c.clear-2.ensures c.clear-3.ensures; counted = rows_read g all e }

pub returns-in_err-p : goal.returns-in_err-p
returns-in_err-p c = not_limit c.requires.goes_on c.pass.ensures c.in_err-p.was
