-- `read::eight_at` meets its contract.
use Rattle.sheet.proofs.DigitLaws.{eight_number}
use Rattle.sheet.proofs.read.eight_at.Goals as goal

pub returns : goal.returns
returns c =
    let p = c.requires in
    eight_number _ _ p.0 p.1
