-- `extract` meets its contract.
use mathlib.Core.Path.{sym, ap, ◌∙◌}
use Rattle.common.proofs.PassedOn.{passed_on}
use Rattle.extract.specs.Concluding.{extraction_in}
use Rattle.html2text.specs.Extract.{numbers}
use Rattle.reader.proofs.extract.Goals as goal

pub returns-in_err-r : goal.returns-in_err-r
returns-in_err-r c =
    let x = c.extract_counted.ensures in
    let e = passed_on c.from_residual.result c.from_residual.ensures.1 ∙ sym (ap extraction_in c.in_err-r.was) in
    record { answer = e ∙ x.answer; text = x.text; cleared = x.cleared; said = ap numbers e ∙ x.said }

pub returns : goal.returns
returns c =
    let x = c.extract_counted.ensures in
    let e = sym (ap extraction_in c.in_ok-r.was) in
    record { answer = e ∙ x.answer; text = x.text; cleared = x.cleared; said = ap numbers e ∙ x.said }
