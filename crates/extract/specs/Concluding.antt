-- What the passes of an extraction conclude from a run of `serialize`: the answer and both buffers.
use Rattle.std.specs.Prelude.{◌≡◌, Bool, false, cond, ℕ, length, Result, Ok, Err}
use Rattle.common.specs.Bytes.{Bytes}
use Rattle.options.specs.declared.ExtractOptions.{ExtractOptions}
use Rattle.sheet.specs.Verdict.{judged, is_sheet}
use Rattle.sheet.specs.declared.line.Layout.{Layout}
use Rattle.sheet.specs.declared.verdict.SheetError.{SheetError}
use Rattle.filters.specs.Filters.{filtered}
use Rattle.tree.specs.Page.{Page, page_of}
use Rattle.html2text.specs.Extract.{Run, going, longest_names, concluded, out_then, work_then, extraction, out_after, work_after}
use Rattle.html2text.specs.Serialize.{State}
use Rattle.html2text.specs.declared.ExtractError.{ExtractError}
use Rattle.html2text.specs.declared.ExtractError.TheVariants.{Refused}
use Rattle.html2text.specs.declared.Extracted.{Extracted}
use Rattle.extract.specs.declared.Counted.{Counted}

-- the extraction alone, and what its writing read: nothing where there is none
abbrev pub extraction_in : Result Counted ExtractError → Result Extracted ExtractError
extraction_in (Ok c) = Ok c.extracted
extraction_in (Err e) = Err e

abbrev pub read_counted : Result Counted ExtractError → ℕ
read_counted (Ok c) = c.read
read_counted (Err e) = 0

-- `out` and `work` as they were, `out'` and `work'` as they are then
pub record Concludes (need passes : ℕ) (R : Run) (out work : Bytes) (r : Result Extracted ExtractError) (out' work' : Bytes) : Type 0 where
  pub answer : r ≡ concluded need passes R (length out) (length work)
  pub out_is : out' ≡ out_then need passes R out work
  pub work_is : work' ≡ work_then need passes R work

-- no entry is refused, and the text is never longer than `peak`
pub record GoesOn (R : Run) (peak : ℕ) : Type 0 where
  pub state : State
  pub goes_on : R ≡ going state
  pub longest : peak ≡ state.out.peak

-- what `work` must hold beside the entries' texts
abbrev pub names_need : Page → ExtractOptions → ℕ
names_need p o = cond o.main_content (longest_names p.node (length p.depths)) 0

-- the most rows for which the short columns are taken
abbrev pub few_rows : ℕ
few_rows = 256

-- the same of a page, where `filtered` says which rows are filtered out
pub record Extracts (filtered : ℕ → Bool) (p : Page) (o : ExtractOptions) (out work : Bytes) (r : Result Extracted ExtractError) (out' work' : Bytes) : Type 0 where
  pub answer : r ≡ extraction filtered p o (length out) (length work)
  pub out_is : out' ≡ out_after filtered p o out work
  pub work_is : work' ≡ work_after filtered p o work

-- the answer to a sheet whose header is right: what its lines are refused for, both buffers as they were; or its page's extraction
pub record Answers (s : Bytes) (l : Layout) (o : ExtractOptions) (out work : Bytes) (r : Result Extracted ExtractError) (out' work' : Bytes) : Type 0 where
  pub accepted : judged s l ≡ Ok l → Extracts (filtered (page_of s l) o) (page_of s l) o out work r out' work'
  pub refused : {e : SheetError} → judged s l ≡ Err e → r ≡ Err (Refused e)
  pub out_same : is_sheet (judged s l) ≡ false → out' ≡ out
  pub work_same : is_sheet (judged s l) ≡ false → work' ≡ work
