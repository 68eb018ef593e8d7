-- From what `take_rows` says of a sheet to the answer.
use Rattle.std.specs.Prelude.{Result, Ok, Err}
use mathlib.Core.Path.{◌≡◌, refl, sym, ap, ◌∙◌}
use mathlib.Core.Bool.{Bool, true, false}
use Rattle.common.specs.Bytes.{Bytes}
use Rattle.common.proofs.Choice.{absurd_test}
use Rattle.filters.specs.Filters.{filtered}
use Rattle.html2text.specs.declared.ExtractError.{ExtractError}
use Rattle.html2text.specs.declared.ExtractError.TheVariants.{Refused}
use Rattle.html2text.specs.declared.Extracted.{Extracted}
use Rattle.options.specs.declared.ExtractOptions.{ExtractOptions}
use Rattle.sheet.specs.Accepted.{Accepted}
use Rattle.sheet.specs.Notes.{Sized}
use Rattle.sheet.specs.Verdict.{judged, is_sheet}
use Rattle.sheet.specs.declared.line.Layout.{Layout}
use Rattle.sheet.specs.declared.verdict.SheetError.{SheetError}
use Rattle.sheet.proofs.Acceptance.{judged_accepts, sheet_of}
use Rattle.tree.specs.Page.{page_of}
use Rattle.extract.specs.Concluding.{Extracts, Answers}

error_same : {v : Result Layout SheetError} {x y : SheetError} → v ≡ Err x → v ≡ Err y → x ≡ y
error_same p q = cc

-- a sheet that is not refused is taken
pub not_refused : {v w : Result Layout SheetError} {k : Layout} {taken : Bool} → taken ≡ is_sheet w → v ≡ w → v ≡ Ok k → taken ≡ true
not_refused e v_is v_ok = e ∙ ap is_sheet (sym v_is ∙ v_ok)

module _ {s : Bytes} {l : Layout} {taken : Bool} (e : taken ≡ is_sheet (judged s l)) where
  pub taken_accepted : taken ≡ true → Sized s l → Accepted s l
  taken_accepted t sized = (judged_accepts s l sized (sheet_of (judged s l) (sym e ∙ t)).1).1

  module _ (o : ExtractOptions) (out work : Bytes) where
    pub taken_answers : {r : Result Extracted ExtractError} {out' work' : Bytes} → taken ≡ true → Extracts (filtered (page_of s l) o) (page_of s l) o out work r out' work' → Answers s l o out work r out' work'
    taken_answers t x =
        record {
          accepted = λ j. x;
          refused = λ f. absurd_test (sym e ∙ t) (ap is_sheet f);
          out_same = λ f. absurd_test (sym e ∙ t) f;
          work_same = λ f. absurd_test (sym e ∙ t) f;
        }

    pub refused_answers : {x : SheetError} {r : Result Extracted ExtractError} → taken ≡ false → judged s l ≡ Err x → r ≡ Err (Refused x) → Answers s l o out work r out work
    refused_answers {x} f x_is r_is =
        record {
          accepted = λ j. absurd_test (ap is_sheet j) (sym e ∙ f);
          refused = λ g. r_is ∙ ap (λ (z : SheetError). Err (Refused z)) (error_same x_is g);
          out_same = λ g. refl;
          work_same = λ g. refl;
        }
