-- `extract_counted` meets its contract.
use mathlib.Core.Path.{sym, ap, ◌∙◌}
use lib.Dec.{lit≤}
use Rattle.common.proofs.PassedOn.{passed_on}
use Rattle.extract.specs.Concluding.{extraction_in}
use Rattle.html2text.specs.Extract.{numbers}
use Rattle.sheet.proofs.Acceptance.{header_passes}
use Rattle.reader.proofs.ExtractionLaws.{header_answers, answers, answers_read}
use Rattle.reader.proofs.extract_counted.Goals as goal

pub header_in-requires : goal.header_in-requires
header_in-requires c = lit≤ tt

pub returns-in_err-l : goal.returns-in_err-l
returns-in_err-l c =
    let e = passed_on c.from_residual.result c.from_residual.ensures.1 in
    let x = header_answers _ _ c.args.out.now c.args.work.now (sym c.header_in.ensures ∙ c.in_err-l.was) (ap extraction_in e) in
    record { answer = x.0; text = x.1; cleared = x.2; said = ap numbers x.0; counted = rw e }

pub extract_sized-requires : goal.extract_sized-requires
extract_sized-requires c = (header_passes _ _ (lit≤ tt) (sym c.header_in.ensures ∙ c.in_ok-l.was)).0

pub returns : goal.returns
returns c =
    let h = sym c.header_in.ensures ∙ c.in_ok-l.was in
    let e = c.extract_sized.ensures in
    let x = answers _ _ _ _ h e.answers in
    record { answer = x.0; text = x.1; cleared = x.2; said = ap numbers x.0; counted = answers_read _ _ _ _ h e.answers e.counted }
