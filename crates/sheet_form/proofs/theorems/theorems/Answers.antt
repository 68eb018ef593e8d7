-- `theorems::theorems` meets its contract.
use mathlib.Core.Path.{ap}
use Rattle.sheet_form.specs.Encoding.{encode}
use Rattle.sheet_form.proofs.DecodeEncode.{row_is, attribute_is, range_is, encode_lined, decode_encode}
use Rattle.sheet_form.proofs.EncodeDecode.{of_lined}
use Rattle.sheet_form.proofs.Marking.{marks_right, mark_right}
use Rattle.sheet_form.proofs.PageLaws.{page_encode, page_decode}
use Rattle.sheet_form.proofs.Refusals.{same_refusal}
use Rattle.sheet_form.proofs.Rightness.{encode_accepted, accepted_right, of_accepted}
use Rattle.sheet_form.proofs.Verdicts.{verdict_encode}
use Rattle.sheet_form.proofs.Widths.{right_fits}
use Rattle.sheet_form.proofs.theorems.theorems.Goals as goal

pub returns : goal.returns
returns c =
    record {
      of_lined = of_lined;
      of_accepted = λ {w} {s} {l} width e.
          let r = of_accepted width s l e in
          record { width = r.0; lined = r.1; right = r.2; pool = r.3; page = page_decode r.1 r.2 };
      of_decoded = λ {w} {d} fits.
          record {
            lined = encode_lined w d fits;
            decoded = decode_encode w d fits;
            row = row_is w d fits;
            attribute = attribute_is w d fits;
            range = range_is w d;
            verdict = verdict_encode w d fits;
            accepted = (accepted_right fits, λ r. encode_accepted fits r.0 r.1);
            page = page_encode w d fits;
          };
      of_widths = λ {w} {v} {d} fits other. record { refusal = same_refusal d fits other; rewritten = ap (encode w) (decode_encode v d other) };
      room = λ r. right_fits r;
      marks = marks_right;
      mark = mark_right;
    }
