-- The three demands, over what `extract` promises (src/lib.rt): the answer `extraction_of`, and `out_after_of` and `work_after_of`.
use Rattle.std.specs.Prelude.{◌≡◌, Bool, true, false, ◌||◌, List, [], ◌∷◌, ℕ, ◌+◌, ◌*◌, eqb, length, Some, Result, Ok}
use Rattle.common.specs.Answer.{Answer}
use Rattle.common.specs.Bytes.{Bytes, padded}
use Rattle.html2text.specs.Demand3.{Gives}
use Rattle.html2text.specs.Demand3 as html2text
use Rattle.html2text.specs.Encoded.{TextIsUtf8}
use Rattle.html2text.specs.Extract.{concluded, work_need_of, serialized, numbers}
use Rattle.html2text.specs.Walk.{loop_from}
use Rattle.html2text.specs.declared.ExtractError.{ExtractError}
use Rattle.html2text.specs.declared.Extracted.{Extracted}
use Rattle.options.specs.declared.ExtractOptions.{ExtractOptions}
use Rattle.sheet.specs.Verdict.{verdict}
use Rattle.sheet.specs.declared.line.Layout.{Layout}
use Rattle.tree.specs.Page.{Page, page_of}
use Rattle.tree.specs.Theorems.{SheetIsTree}
use Rattle.reader.specs.Extraction.{filters, extraction_of, out_after_of, work_after_of}
use Rattle.reader.specs.Rust.{rust_hidden, rust_loop, rust_text}

-- ---- 1: "Every call comes back, with a whole text or with the number that document 01 fixes, each lent buffer in the state named there"

unfoldable pub is_one_of : ℕ → List ℕ → Bool
is_one_of n [] = false
is_one_of n (m ∷ ms) = eqb n m || is_one_of n ms

-- 0 and the numbers that an extraction can be refused with
abbrev pub is_number : ℕ → Bool
is_number n = is_one_of n (0 ∷ 11 ∷ 12 ∷ 13 ∷ 14 ∷ 15 ∷ 16 ∷ 17 ∷ 21 ∷ 22 ∷ 31 ∷ 32 ∷ [])

module _ (s : Bytes) (o : ExtractOptions) (out work : Bytes) where
  abbrev pub answer : Answer
  answer = numbers (extraction_of s o (length out) (length work))

  pub record ComesBack : Type 0 where
    pub number : is_number answer.number ≡ true
    -- "After a text: work is all zero, out holds the text and zeros behind it."
    pub text : answer.number ≡ 0 → (t : Bytes) × (answer.length ≡ length t) × (out_after_of s o out work ≡ padded t (length out)) × (work_after_of s o work ≡ padded [] (length work))
    -- "After a refusal out is unchanged. .. A refusal has visits 0 and length 0."
    pub refused : (answer.number ≡ 0 → ⊥) → (out_after_of s o out work ≡ out) × (answer.visits ≡ 0) × (answer.length ≡ 0)
    -- "Work is unchanged too, except after 32, when it is all zero."
    pub kept : (answer.number ≡ 0 → ⊥) → (answer.number ≡ 32 → ⊥) → work_after_of s o work ≡ work
    pub cleared : answer.number ≡ 32 → work_after_of s o work ≡ padded [] (length work)

abbrev pub Demand1 : Type 0
Demand1 = (s : Bytes) (o : ExtractOptions) (out work : Bytes) → ComesBack s o out work

-- ---- 2: "For each accepted sheet, with our added options at 0, the text equals that of the Rust walk on the same tree, root, marks and options."

-- our answer by the Rust's loop: its entries and its passes, with our numbers 21, 22, 31 and 32
abbrev pub loop_extraction : Page → ExtractOptions → ℕ → ℕ → Result Extracted ExtractError
loop_extraction p o out work =
    concluded (work_need_of p o (rust_loop p o).nodes) (rust_loop p o).passes (serialized o (rust_loop p o).nodes) out work

pub record AsTheRust (s : Bytes) (l : Layout) (o : ExtractOptions) : Type 0 where
  -- a text that is given is the Rust's, byte for byte
  pub text : o.icons ≡ false → o.missing_alt ≡ false → (out work t : Bytes) → Gives filters s o out work t → t ≡ rust_text (page_of s l) o
  -- the whole answer, visits and refusals too, is that of the Rust's loop
  pub answer : (out work : ℕ) → extraction_of s o out work ≡ loop_extraction (page_of s l) o out work
  -- `loop` makes 2·N passes at most: the Rust's has ended there, more passes change nothing
  pub ends : (k : ℕ)
      → loop_from (page_of s l) (rust_hidden (page_of s l) o) o (2 * length (page_of s l).depths + k) (Some l.root) 0 false (record { nodes = []; passes = 0 })
      ≡ rust_loop (page_of s l) o

pub record Demand2 : Type 0 where
  pub rust : (s : Bytes) (l : Layout) (o : ExtractOptions) → verdict s ≡ Ok l → AsTheRust s l o
  -- "Tree order, text content and UTF-8 are proved against WHATWG DOM and RFC 3629": of the page of every accepted sheet
  pub standards : SheetIsTree
  -- and the text that is given is UTF-8
  pub encoding : TextIsUtf8

-- ---- 3: blanks, and pieces of one and of two extractions

abbrev pub Demand3 : Type 0
Demand3 = html2text.Demand3 filters
