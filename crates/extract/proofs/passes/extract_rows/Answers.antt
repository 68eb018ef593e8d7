-- `passes::extract_rows` meets its contract.
use mathlib.Core.Path.{ap}
use native.Mathlib.Omega.{arith}
use Rattle.common.proofs.PassedOn.{passed_on}
use Rattle.writer.proofs.OutLaws.{greater_max}
use Rattle.extract.specs.Concluding.{extraction_in}
use Rattle.extract.proofs.RowLaws.{measure_ready, rows_go_on, rows_filled, rows_limit}
use Rattle.extract.proofs.passes.extract_rows.Goals as goal

pub pass-requires : goal.pass-requires
pass-requires c = record { noted = c.requires.noted; walked = c.requires.walked; write_ready = measure_ready _ }

pub fill-requires : goal.fill-requires
fill-requires c = let q = c.requires.walked in record { noted = c.requires.noted; walked = (q.0, omega (arith, q.1), omega (arith, q.2), omega (arith, q.3)); goes_on = rows_go_on c.pass.ensures c.in_ok-p.was }

pub shape_of-stack : goal.shape_of-stack
shape_of-stack c = omega arith

pub returns : goal.returns
returns c = record { concludes = rows_filled c.pass.ensures c.in_ok-p.was _ (grind (arith, greater_max)) c.fill.ensures.concludes; counted = c.fill.ensures.counted }

pub returns-in_err-p : goal.returns-in_err-p
returns-in_err-p c =
    let e = passed_on c.from_residual.result c.from_residual.ensures.1 in
    record { concludes = rows_limit c.pass.ensures _ _ c.in_err-p.was (ap extraction_in e); counted = rw e }
