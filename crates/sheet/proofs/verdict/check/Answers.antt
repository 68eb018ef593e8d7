-- `verdict::check` meets its contract.
use mathlib.Core.Path.{ap}
use Rattle.sheet.specs.Verdict.{numbers}
use Rattle.sheet.proofs.verdict.check.Goals as goal

pub returns : goal.returns
returns c = record { answer = c.check_in.ensures; said = ap numbers c.check_in.ensures }
