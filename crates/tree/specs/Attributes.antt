-- One attribute of a row by name: its range in the pool, its value, and the answer to a byte string (document 01, "The sheet" and module 2).
use Rattle.std.specs.Prelude.{true, false, List, [], ◌∷◌, ℕ, zero, suc, ◌+◌, ◌≤◌, Option, None, Some, Result, Ok, Err}
use Rattle.common.specs.Answer.{Answer, refused, written}
use Rattle.common.specs.Bytes.{Bytes, same}
use Rattle.common.specs.Refusals.{no_row}
use Rattle.sheet.specs.Layout.{attribute_at, range, row_at}
use Rattle.sheet.specs.Verdict.{counts_from}
use Rattle.sheet.specs.Verdict as verdict
use Rattle.sheet.specs.declared.line.Layout.{Layout}
use Rattle.tree.specs.Node.{Attribute}
use Rattle.tree.specs.Questions.{asked_of, by_sheet, answered, refusal}
use Rattle.sheet.specs.declared.line.Row.{Row}
use Rattle.tree.specs.declared.attributes.Span.{Span}
use Rattle.tree.specs.declared.questions.QuestionError.{QuestionError}

module _ (s : Bytes) (l : Layout) where
  -- the name and the value of attribute line j
  abbrev pub name_at : ℕ → Bytes
  name_at j = range s l (attribute_at s l j).name_at (attribute_at s l j).name_len

  abbrev pub value_at : ℕ → Bytes
  value_at j = range s l (attribute_at s l j).value_at (attribute_at s l j).value_len

  -- n attributes from line j on
  unfoldable pub attributes_from : ℕ → ℕ → List Attribute
  attributes_from j zero = []
  attributes_from j (suc n) = record { name = name_at j; value = value_at j } ∷ attributes_from (suc j) n

  -- "Names are compared byte for byte. If a row has two attributes of one name, the first counts."
  unfoldable pub find_of : Bytes → ℕ → ℕ → Option Span
  find_of name j zero = None
  find_of name j (suc n) =
      elim (same (name_at j) name) [ true ↦ Some (record { at = (attribute_at s l j).value_at; len = (attribute_at s l j).value_len }) | false ↦ find_of name (suc j) n ]

  -- the value that a range holds
  abbrev pub value_in : Option Span → Option Bytes
  value_in None = None
  value_in (Some v) = Some (range s l v.at v.len)

-- the range of an attribute that is there lies in the pool
abbrev pub RangeInside : Layout → Option Span → Type 0
RangeInside l None = Unit {0}
RangeInside l (Some v) = v.at + v.len ≤ l.pool

-- the attribute lines of a row stand behind those of the rows before it
abbrev pub attribute_to : Bytes → ℕ → Bytes → Result (Layout × Row) QuestionError → Result (Option Span) QuestionError
attribute_to s row name asked = answered (λ l r. find_of s l name (counts_from s l 0 row) r.attributes) asked

unfoldable pub attribute_of : Bytes → ℕ → Bytes → Result (Option Span) QuestionError
attribute_of s row name = attribute_to s row name (asked_of s row)

-- the numbers of each case: of a value its length
abbrev pub range_numbers : Option Span → Answer
range_numbers None = written 0
range_numbers (Some v) = written v.len

abbrev pub numbers : Result (Option Span) QuestionError → Answer
numbers (Ok found) = range_numbers found
numbers (Err e) = refusal e

-- the values of each case: a range's start and length, or none
abbrev pub range_values : Option Span → List ℕ
range_values None = []
range_values (Some v) = v.at ∷ v.len ∷ []

abbrev pub values : Result (Option Span) QuestionError → List ℕ
values (Ok found) = range_values found
values (Err e) = []

-- the numbers and the values of the whole answer, by the sheet alone
abbrev pub range_of : Bytes → Layout → ℕ → Bytes → Option Span
range_of s l row name = find_of s l name (counts_from s l 0 row) (row_at s l row).attributes

unfoldable pub attribute_numbers : Bytes → ℕ → Bytes → Answer
attribute_numbers s row name = by_sheet (λ l. range_numbers (range_of s l row name)) (refused no_row row) verdict.refusal s row

unfoldable pub attribute_values : Bytes → ℕ → Bytes → List ℕ
attribute_values s row name = by_sheet (λ l. range_values (range_of s l row name)) [] (λ e. []) s row
