-- Single-row questions to a byte string, and their numbers (document 01, module 2 and "Who can cause which number", 35).
use Rattle.std.specs.Prelude.{cond, List, ℕ, ltb, Option, None, Some, Result, Ok, Err}
use Rattle.common.specs.Answer.{Answer, refused, accepted, written}
use Rattle.common.specs.Bytes.{Bytes}
use Rattle.common.specs.Refusals.{no_row}
use Rattle.sheet.specs.Layout.{row_at, depths}
use Rattle.sheet.specs.Verdict.{verdict}
use Rattle.sheet.specs.Verdict as sheet_verdict
use Rattle.sheet.specs.declared.line.Layout.{Layout}
use Rattle.sheet.specs.declared.verdict.SheetError.{SheetError}
use Rattle.sheet.specs.declared.line.Row.{Row}
use Rattle.tree.specs.declared.questions.QuestionError.{QuestionError}
use Rattle.tree.specs.declared.questions.QuestionError.TheVariants.{Refused, NoRow}

-- an accepted sheet is asked; any other verdict is a refusal
abbrev pub on_sheet : {A : Type 0} → (Layout → A) → (SheetError → A) → Result Layout SheetError → A
on_sheet ask refuse (Ok l) = ask l
on_sheet ask refuse (Err e) = refuse e

-- "A row that is asked for and not there": one not below N
unfoldable pub lookup_of : Bytes → Layout → ℕ → Option Row
lookup_of s l i = cond (ltb i l.nodes) (Some (row_at s l i)) None

abbrev pub with_row : Layout → ℕ → Option Row → Result (Layout × Row) QuestionError
with_row l row (Some r) = Ok (l, r)
with_row l row None = Err (NoRow row)

-- "It comes after the sheet's refusals."
unfoldable pub asked_of : Bytes → ℕ → Result (Layout × Row) QuestionError
asked_of s row = on_sheet (λ l. with_row l row (lookup_of s l row)) (λ e. Err (Refused e)) (verdict s)

-- what is answered of a row that is there
abbrev pub answered : {A : Type 0} → (Layout → Row → A) → Result (Layout × Row) QuestionError → Result A QuestionError
answered answer (Ok p) = Ok (answer p.0 p.1)
answered answer (Err e) = Err e

-- an answer by the sheet alone: of a row that is there, of one that is not, of a sheet that is refused
abbrev pub by_sheet : {A : Type 0} → (Layout → A) → A → (SheetError → A) → Bytes → ℕ → A
by_sheet there missing refuse s row = on_sheet (λ l. cond (ltb row l.nodes) (there l) missing) refuse (verdict s)

-- "a parent, child, sibling .. that the tree lacks is a plain \"none\""
abbrev pub relative_to : (List ℕ → ℕ → Option ℕ) → Bytes → ℕ → Result (Layout × Row) QuestionError → Result (Option ℕ) QuestionError
relative_to relation s row asked = answered (λ l r. relation (depths s l) row) asked

-- a row that is searched for in the depth column, from a row that is asked for
unfoldable pub relative_of : (List ℕ → ℕ → Option ℕ) → Bytes → ℕ → Result (Option ℕ) QuestionError
relative_of relation s row = relative_to relation s row (asked_of s row)

-- a row's numbers: 0 and the row, with length 1 to tell it from none, which has length 0
abbrev pub row_found : ℕ → Answer
row_found j = accepted j 0 1

-- the numbers of each case
abbrev pub refusal : QuestionError → Answer
refusal (NoRow i) = refused no_row i
refusal (Refused e) = sheet_verdict.refusal e

abbrev pub row_or_none : Option ℕ → Answer
row_or_none None = written 0
row_or_none (Some j) = row_found j

abbrev pub numbers : Result (Option ℕ) QuestionError → Answer
numbers (Ok found) = row_or_none found
numbers (Err e) = refusal e

-- the numbers of the whole answer, by the sheet alone
unfoldable pub relative_numbers : (List ℕ → ℕ → Option ℕ) → Bytes → ℕ → Answer
relative_numbers relation s row = by_sheet (λ l. row_or_none (relation (depths s l) row)) (refused no_row row) sheet_verdict.refusal s row
