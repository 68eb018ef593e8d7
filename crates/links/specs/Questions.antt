-- The link measure asked of a byte string, and its numbers (document 01, module 4 and "Who can cause which number", 35).
use Rattle.std.specs.Prelude.{Result, Ok, Err, ℕ, true, false, List, [], ◌∷◌, ◌==◌, to_bits}
use Rattle.std.specs.Float.{binary64}
use Rattle.common.specs.Answer.{Answer, refused, accepted}
use Rattle.common.specs.Bytes.{Bytes}
use Rattle.common.specs.Refusals.{no_row}
use Rattle.sheet.specs.Layout.{row_at, depths}
use Rattle.sheet.specs.Verdict as verdict
use Rattle.sheet.specs.declared.line.Layout.{Layout}
use Rattle.tree.specs.Page.{node_at}
use Rattle.sheet.specs.declared.line.Row.{Row}
use Rattle.tree.specs.Questions.{asked_of, by_sheet}
use Rattle.tree.specs.declared.questions.QuestionError.{QuestionError}
use Rattle.tree.specs.declared.questions.QuestionError as question
use Rattle.links.specs.Links.{text_bytes, link_bytes, measure_of}
use Rattle.links.specs.declared.Measure.{Measure}
use Rattle.links.specs.declared.Measure.TheVariants.{NoText, TooLong, NoLinks, Share}
use Rattle.links.specs.declared.Rule.{Rule}
use Rattle.links.specs.declared.questions.MeasureError.{MeasureError}
use Rattle.links.specs.declared.questions.MeasureError.TheVariants.{Refused, NoElement}

-- the measure of a row of a sheet
abbrev pub measure_at : Bytes → Layout → Rule → ℕ → Measure
measure_at s l rule i = measure_of rule (text_bytes (node_at s l) (depths s l) i) (link_bytes (node_at s l) (depths s l) i)

-- 35: "a row not below N, or for the link measure not an element"
abbrev pub measure_error : QuestionError → MeasureError
measure_error (question.TheVariants.Refused e) = Refused e
measure_error (question.TheVariants.NoRow i) = NoElement i

abbrev pub measure_to : Bytes → ℕ → Rule → Result (Layout × Row) QuestionError → Result Measure MeasureError
measure_to s row rule (Ok p) = elim (p.1.kind == 1) [ true ↦ Ok (measure_at s p.0 rule row) | false ↦ Err (NoElement row) ]
measure_to s row rule (Err e) = Err (measure_error e)

unfoldable pub measure_answer_of : Bytes → ℕ → Rule → Result Measure MeasureError
measure_answer_of s row rule = measure_to s row rule (asked_of s row)

-- the outcomes in document 01's order
abbrev pub outcome : Measure → ℕ
outcome NoText = 0
outcome TooLong = 1
outcome NoLinks = 2
outcome (Share share) = 3

-- a measure's numbers: 0 and the outcome; its values: the outcome and, of a share, the bits of the f64
abbrev pub outcome_numbers : Measure → Answer
outcome_numbers m = accepted (outcome m) 0 0

abbrev pub outcome_values : Measure → List ℕ
outcome_values NoText = 0 ∷ []
outcome_values TooLong = 1 ∷ []
outcome_values NoLinks = 2 ∷ []
outcome_values (Share share) = 3 ∷ to_bits binary64 share ∷ []

-- the numbers and the values of each case
abbrev pub refusal : MeasureError → Answer
refusal (NoElement i) = refused no_row i
refusal (Refused e) = verdict.refusal e

abbrev pub numbers : Result Measure MeasureError → Answer
numbers (Ok m) = outcome_numbers m
numbers (Err e) = refusal e

abbrev pub values : Result Measure MeasureError → List ℕ
values (Ok m) = outcome_values m
values (Err e) = []

-- the numbers and the values of the whole answer, by the sheet alone
unfoldable pub measure_numbers : Bytes → ℕ → Rule → Answer
measure_numbers s row rule =
    by_sheet (λ l. elim ((row_at s l row).kind == 1) [ true ↦ outcome_numbers (measure_at s l rule row) | false ↦ refused no_row row ]) (refused no_row row) verdict.refusal s row

unfoldable pub measure_values : Bytes → ℕ → Rule → List ℕ
measure_values s row rule = by_sheet (λ l. elim ((row_at s l row).kind == 1) [ true ↦ outcome_values (measure_at s l rule row) | false ↦ [] ]) [] (λ v. []) s row
