-- The length of a row's text content after `collapse`, and the answer to a byte string (document 01, modules 2 and 4).
use Rattle.std.specs.Prelude.{Result, Ok, Err, List, ℕ, ◌+◌, length}
use Rattle.common.specs.Answer.{Answer, refused, written}
use Rattle.common.specs.Bytes.{Bytes}
use Rattle.common.specs.Refusals.{no_row}
use Rattle.sheet.specs.Layout.{depths}
use Rattle.sheet.specs.Verdict as verdict
use Rattle.text.specs.Text.{is_space, collapse_from, space_after, collapse}
use Rattle.text.specs.declared.Squeezed.{Squeezed}
use Rattle.tree.specs.Node.{Node}
use Rattle.tree.specs.Page.{node_at}
use Rattle.tree.specs.Questions.{asked_of, by_sheet, answered, refusal}
use Rattle.tree.specs.Rows.{children_of}
use Rattle.tree.specs.TextContent.{text_content}
use Rattle.sheet.specs.declared.line.Layout.{Layout}
use Rattle.sheet.specs.declared.line.Row.{Row}
use Rattle.tree.specs.declared.questions.QuestionError.{QuestionError}

-- `collapse(&node.text_content().unwrap_or_default()).len()`: the texts are put together first, so that blanks at the end of one and at the start of the next are one run
unfoldable pub text_length : (ℕ → Node) → List ℕ → ℕ → ℕ
text_length node_of depths i = length (collapse (text_content node_of i (children_of depths i)))

-- a collapsed text, by its length and whether it ends in a blank, with one text more
abbrev pub squeezed_on : Squeezed → Bytes → Squeezed
squeezed_on p text = record { len = p.len + length (collapse_from is_space p.space text); space = space_after is_space p.space text }

abbrev pub length_to : Bytes → ℕ → Result (Layout × Row) QuestionError → Result ℕ QuestionError
length_to s row asked = answered (λ l r. text_length (node_at s l) (depths s l) row) asked

unfoldable pub length_of : Bytes → ℕ → Result ℕ QuestionError
length_of s row = length_to s row (asked_of s row)

-- the numbers of each case
abbrev pub numbers : Result ℕ QuestionError → Answer
numbers (Ok n) = written n
numbers (Err e) = refusal e

-- the numbers of the whole answer, by the sheet alone
unfoldable pub length_numbers : Bytes → ℕ → Answer
length_numbers s row = by_sheet (λ l. written (text_length (node_at s l) (depths s l) row)) (refused no_row row) verdict.refusal s row
