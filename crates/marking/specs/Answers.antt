-- The marker's answer for every byte string, and the sheet after it.
use Rattle.std.specs.Prelude.{Bool, ℕ, Result, Ok, Err}
use Rattle.common.specs.Answer.{Answer, accepted}
use Rattle.common.specs.Bytes.{Bytes}
use Rattle.options.specs.declared.ExtractOptions.{ExtractOptions}
use Rattle.sheet.specs.Verdict.{verdict}
use Rattle.sheet.specs.Verdict as sheet_verdict
use Rattle.sheet.specs.declared.verdict.SheetError.{SheetError}
use Rattle.sheet_form.specs.Encoding.{encode, decode}
use Rattle.tree.specs.Questions.{on_sheet}
use Rattle.marking.specs.Marks.{marked, marks}

module _ (s : Bytes) (o : ExtractOptions) (noscript : Bool) where
  unfoldable pub marked_of : Result ℕ SheetError
  marked_of = on_sheet (λ l. Ok (marks o noscript (decode l s))) (λ e. Err e) (verdict s)

  -- "Refused: .. the sheet unchanged"
  unfoldable pub sheet_after : Bytes
  sheet_after = on_sheet (λ l. encode l.width (marked o noscript (decode l s))) (λ e. s) (verdict s)

-- "number 0 with the new marks as length"
abbrev pub numbers : Result ℕ SheetError → Answer
numbers (Ok n) = accepted 0 0 n
numbers (Err e) = sheet_verdict.refusal e
