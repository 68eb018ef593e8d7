-- What the entry point answers for every byte string, row and output, the output after it, and the numbers.
use Rattle.std.specs.Prelude.{cond, ℕ, ltb, length, Result, Ok, Err}
use Rattle.common.specs.Answer.{Answer, refused, written}
use Rattle.common.specs.Bytes.{Bytes, padded}
use Rattle.common.specs.Refusals.{no_row, visible_text_out_too_short}
use Rattle.sheet.specs.Layout.{depths}
use Rattle.sheet.specs.Verdict as verdict
use Rattle.tree.specs.Page.{node_at}
use Rattle.tree.specs.Questions.{by_sheet}
use Rattle.tree.specs.declared.questions.QuestionError.{QuestionError}
use Rattle.tree.specs.declared.questions
use Rattle.writer.specs.Out.{Out}
use Rattle.visible_text.specs.VisibleText.{visible}
use Rattle.visible_text.specs.declared.VisibleTextError.{VisibleTextError}
use Rattle.visible_text.specs.declared.VisibleTextError.TheVariants.{Refused, NoRow, TooShort}

-- "then output too short, with 53 and the need, which is the greatest length the text reaches on the way", of an output of `room` bytes
abbrev pub answered_in : Out → ℕ → Result ℕ VisibleTextError
answered_in o room = cond (ltb room o.peak) (Err (TooShort o.peak)) (Ok (length o.text))

-- "the output unchanged"; accepted, the text and zeros behind it
abbrev pub holding : Out → Bytes → Bytes
holding o out = cond (ltb (length out) o.peak) out (padded o.text (length out))

-- "Refused: as the sheet; 35; then .. 53"
unfoldable pub visible_text_in : Bytes → ℕ → ℕ → Result ℕ VisibleTextError
visible_text_in s row room = by_sheet (λ l. answered_in (visible (node_at s l) (depths s l) row) room) (Err (NoRow row)) (λ e. Err (Refused e)) s row

unfoldable pub visible_text_out : Bytes → ℕ → Bytes → Bytes
visible_text_out s row out = by_sheet (λ l. holding (visible (node_at s l) (depths s l) row) out) out (λ e. out) s row

-- what a question's error is here
abbrev pub of_question : QuestionError → VisibleTextError
of_question (questions.QuestionError.TheVariants.Refused e) = Refused e
of_question (questions.QuestionError.TheVariants.NoRow i) = NoRow i

-- the numbers of each case
abbrev pub refusal : VisibleTextError → Answer
refusal (Refused e) = verdict.refusal e
refusal (NoRow i) = refused no_row i
refusal (TooShort need) = refused visible_text_out_too_short need

abbrev pub numbers : Result ℕ VisibleTextError → Answer
numbers (Ok n) = written n
numbers (Err e) = refusal e
