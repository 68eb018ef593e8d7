-- An extraction: `serialize` over all entries with 21 and 22, the needs of 31 and 32, the answer, and what the lent buffers hold after it
-- (document 01, "Who can cause which number").
use Rattle.std.specs.Prelude.{Bool, ◌&&◌, ◌||◌, not, cond, List, [], ◌∷◌, ℕ, zero, suc, ◌+◌, leb, ltb, length, Result, Ok, Err}
use Rattle.common.specs.Answer.{Answer, refused, accepted}
use Rattle.common.specs.Bytes.{Bytes, codes, padded}
use Rattle.common.specs.Refusals.{too_many_list_levels, too_many_open_rows, work_too_short, out_too_short}
use Rattle.options.specs.Options.{is_off}
use Rattle.options.specs.declared.ExtractOptions.{ExtractOptions}
use Rattle.options.specs.declared.Formatting.{Formatting}
use Rattle.sheet.specs.Verdict.{verdict}
use Rattle.sheet.specs.Verdict as sheet_verdict
use Rattle.tags.specs.Tags.{is_tr}
use Rattle.text.specs.Text.{rstrip}
use Rattle.tree.specs.Node.{element, text, comment, Node}
use Rattle.tree.specs.Page.{Page, page_of}
use Rattle.tree.specs.Questions.{on_sheet}
use Rattle.writer.specs.Out.{greater}
use Rattle.html2text.specs.Collect.{Entry, attr, collect_all}
use Rattle.html2text.specs.Serialize.{State, start, step, changes_level}
use Rattle.html2text.specs.Walk.{events, visits, tree_of}
use Rattle.html2text.specs.declared.ExtractNode.{ExtractNode}
use Rattle.html2text.specs.declared.ExtractError.{ExtractError}
use Rattle.html2text.specs.declared.ExtractError.TheVariants.{Refused, ListLevels, OpenRows, WorkTooShort, OutTooShort}
use Rattle.html2text.specs.declared.Extracted.{Extracted}

-- ---- `serialize`, until an entry is refused

-- the state after all entries, or the line of the first that is refused
pub data Run : Type 0 where
  going : State → Run
  too_many_levels : ℕ → Run
  too_many_rows : ℕ → Run

-- "list levels to 1,024; open rows to 1,024"
abbrev pub most_levels : ℕ
most_levels = 1024

abbrev pub most_open_rows : ℕ
most_open_rows = 1024

-- "21: list depth would pass 1,024. Formatting Off never counts it."
abbrev pub depth_passes : Formatting → ExtractNode → ℕ → Bool
depth_passes f n depth = not (is_off f) && (not n.end && (changes_level n.tag depth && leb most_levels depth))

abbrev pub passes_levels : Formatting → ExtractNode → State → Bool
passes_levels f n S = depth_passes f n S.depth

-- "22: open table rows would pass 1,024."
abbrev pub rows_pass : ExtractNode → ℕ → Bool
rows_pass n rows = is_tr n.tag && (not n.end && leb most_open_rows rows)

abbrev pub passes_rows : ExtractNode → State → Bool
passes_rows n S = rows_pass n (length S.row_has_cell)

-- "second number: the node's line"; the header is line 0
abbrev pub line_of : Entry → ℕ
line_of e = suc e.row

abbrev pub taken : Formatting → Bool → Entry → Run → Run
taken f bullets e (going S) =
    cond (passes_levels f e.node S) (too_many_levels (line_of e))
    (cond (passes_rows e.node S) (too_many_rows (line_of e)) (going (step f bullets e.node e.text S)))
taken f bullets e (too_many_levels line) = too_many_levels line
taken f bullets e (too_many_rows line) = too_many_rows line

-- entries are held newest first
unfoldable pub serialized : ExtractOptions → List Entry → Run
serialized o [] = going start
serialized o (e ∷ before) = taken o.formatting o.list_bullets e (serialized o before)

-- `rstrip(&mut out)`, at the end
abbrev pub finished : State → Bytes
finished S = rstrip S.out.text

-- ---- "31: work too short. Need: the longest `text` of any entry before collapsing or, with main_content, the longest class length + 1 +
-- id length of any element row if that is more."

unfoldable pub longest_text : List Entry → ℕ
longest_text [] = 0
longest_text (e ∷ before) = greater (longest_text before) (length e.text)

unfoldable pub names_length : Node → ℕ
names_length n =
    elim n.kind [ element ↦ length (attr n (codes "class")) + 1 + length (attr n (codes "id")) | text ↦ 0 | comment ↦ 0 ]

-- of the first k rows
unfoldable pub longest_names : (ℕ → Node) → ℕ → ℕ
longest_names node_of zero = 0
longest_names node_of (suc k) = greater (longest_names node_of k) (names_length (node_of k))

abbrev pub work_need_of : Page → ExtractOptions → List Entry → ℕ
work_need_of p o nodes = greater (longest_text nodes) (cond o.main_content (longest_names p.node (length p.depths)) 0)

-- ---- "The caller's 31 is tested after 21 and 22, 32 after 31."

module _ (need passes : ℕ) where
  abbrev pub concluded : Run → ℕ → ℕ → Result Extracted ExtractError
  concluded (going S) out work =
      cond (ltb work need) (Err (WorkTooShort need))
      (cond (ltb out S.out.peak) (Err (OutTooShort S.out.peak)) (Ok (record { visits = passes; len = length (finished S) })))
  concluded (too_many_levels line) out work = Err (ListLevels line)
  concluded (too_many_rows line) out work = Err (OpenRows line)

  -- "After a refusal out is unchanged. .. After a text: .. out holds the text and zeros behind it."
  abbrev pub out_then : Run → Bytes → Bytes → Bytes
  out_then (going S) out work =
      cond (ltb (length work) need) out (cond (ltb (length out) S.out.peak) out (padded (finished S) (length out)))
  out_then (too_many_levels line) out work = out
  out_then (too_many_rows line) out work = out

  -- "Work is unchanged too, except after 32, when it is all zero. After a text: work is all zero"
  abbrev pub work_then : Run → Bytes → Bytes
  work_then (going S) work = cond (ltb (length work) need) work (padded [] (length work))
  work_then (too_many_levels line) work = work
  work_then (too_many_rows line) work = work

-- ---- of a page: `filtered` says which rows `is_main_content` leaves out, and is asked with main_content alone

module _ (filtered : ℕ → Bool) (p : Page) (o : ExtractOptions) where
  abbrev pub hidden : ℕ → Bool
  hidden i = p.marked i || (o.main_content && filtered i)

  abbrev pub entries : List Entry
  entries = collect_all o [] (events p.node hidden 0 (tree_of p))

  abbrev pub passes : ℕ
  passes = visits p.node hidden (tree_of p)

  abbrev pub work_need : ℕ
  work_need = work_need_of p o entries

  unfoldable pub extraction : ℕ → ℕ → Result Extracted ExtractError
  extraction out work = concluded work_need passes (serialized o entries) out work

  unfoldable pub out_after : Bytes → Bytes → Bytes
  out_after out work = out_then work_need passes (serialized o entries) out work

  unfoldable pub work_after : Bytes → Bytes
  work_after work = work_then work_need passes (serialized o entries) work

-- the numbers of each case: number, second number, visits, length
abbrev pub refusal : ExtractError → Answer
refusal (Refused e) = sheet_verdict.refusal e
refusal (ListLevels line) = refused too_many_list_levels line
refusal (OpenRows line) = refused too_many_open_rows line
refusal (WorkTooShort need) = refused work_too_short need
refusal (OutTooShort need) = refused out_too_short need

abbrev pub numbers : Result Extracted ExtractError → Answer
numbers (Ok x) = accepted 0 x.visits x.len
numbers (Err e) = refusal e

-- ---- of a byte string: the sheet's refusals come first, and change neither buffer
-- `filters` says which rows `is_main_content` leaves out, by the rows, their depths, the root and the options: it is given no marks

module _ (filters : (ℕ → Node) → List ℕ → ℕ → ExtractOptions → ℕ → Bool) where
  abbrev pub filtered_by : Page → ExtractOptions → ℕ → Bool
  filtered_by p o = filters p.node p.depths p.root o

  unfoldable pub extraction_of : Bytes → ExtractOptions → ℕ → ℕ → Result Extracted ExtractError
  extraction_of s o out work = on_sheet (λ l. extraction (filtered_by (page_of s l) o) (page_of s l) o out work) (λ e. Err (Refused e)) (verdict s)

  unfoldable pub out_after_of : Bytes → ExtractOptions → Bytes → Bytes → Bytes
  out_after_of s o out work = on_sheet (λ l. out_after (filtered_by (page_of s l) o) (page_of s l) o out work) (λ v. out) (verdict s)

  unfoldable pub work_after_of : Bytes → ExtractOptions → Bytes → Bytes
  work_after_of s o work = on_sheet (λ l. work_after (filtered_by (page_of s l) o) (page_of s l) o work) (λ v. work) (verdict s)
