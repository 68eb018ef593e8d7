-- Two pages that the walk cannot tell apart but for the numbers of their rows, and what is then the same of both. `old` gives of a row of
-- the second its number in the first.
use Rattle.std.specs.Prelude.{◌≡◌, Bool, true, false, List, map, ℕ, zero, suc, length, Result, Ok, Err}
use Rattle.common.specs.Bytes.{Bytes}
use Rattle.options.specs.declared.ExtractOptions.{ExtractOptions}
use Rattle.tree.specs.Forest.{Forest, empty, node}
use Rattle.tree.specs.Node.{Node}
use Rattle.tree.specs.Page.{Page}
use Rattle.html2text.specs.Collect.{Event, Entry}
use Rattle.html2text.specs.Extract.{Run, going, too_many_levels, too_many_rows, serialized, longest_names, hidden, passes, work_need, extraction, out_after, work_after, extraction_of, out_after_of, work_after_of}
use Rattle.html2text.specs.Extract as extract
use Rattle.html2text.specs.Pieces.{Piece}
use Rattle.html2text.specs.Pieces as pieces
use Rattle.html2text.specs.Walk.{left_out, tree_of}
use Rattle.html2text.specs.Walk as walk
use Rattle.html2text.specs.declared.ExtractError.{ExtractError}
use Rattle.html2text.specs.declared.ExtractError.TheVariants.{Refused, ListLevels, OpenRows, WorkTooShort, OutTooShort}
use Rattle.html2text.specs.declared.Extracted.{Extracted}

-- ---- with the numbers of the first page

module _ (old : ℕ → ℕ) where
  abbrev pub event_by : Event → Event
  event_by e = record { row = old e.row; node = e.node; children = e.children; depth = e.depth; end = e.end }

  abbrev pub entry_by : Entry → Entry
  entry_by e = record { row = old e.row; node = e.node; text = e.text }

  abbrev pub piece_by : Piece → Piece
  piece_by p = record { path = map old p.path; bytes = p.bytes }

  -- a row's line; the header is line 0
  abbrev pub line_by : ℕ → ℕ
  line_by zero = zero
  line_by (suc i) = suc (old i)

  abbrev pub run_by : Run → Run
  run_by (going S) = going S
  run_by (too_many_levels line) = too_many_levels (line_by line)
  run_by (too_many_rows line) = too_many_rows (line_by line)

  -- the line of 21 and of 22 follows its row
  abbrev pub error_by : ExtractError → ExtractError
  error_by (Refused e) = Refused e
  error_by (ListLevels line) = ListLevels (line_by line)
  error_by (OpenRows line) = OpenRows (line_by line)
  error_by (WorkTooShort need) = WorkTooShort need
  error_by (OutTooShort need) = OutTooShort need

  abbrev pub extraction_by : Result Extracted ExtractError → Result Extracted ExtractError
  extraction_by (Ok x) = Ok x
  extraction_by (Err e) = Err (error_by e)

-- where no number changes nothing does
pub record SameNumbers : Type 0 where
  pub pieces : (ps : List Piece) → map (piece_by (λ i. i)) ps ≡ ps
  pub answer : (x : Result Extracted ExtractError) → extraction_by (λ i. i) x ≡ x

-- ---- trees

module _ (old : ℕ → ℕ) (node₁ : ℕ → Node) (hidden₁ : ℕ → Bool) (node₂ : ℕ → Node) (hidden₂ : ℕ → Bool) where
  -- row i of the first and row j of the second: of a row that is left out nothing else is asked
  pub record RowsAlike (i j : ℕ) : Type 0 where
    pub out : left_out node₁ hidden₁ i ≡ left_out node₂ hidden₂ j
    pub row : left_out node₁ hidden₁ i ≡ false → i ≡ old j
    pub same : left_out node₁ hidden₁ i ≡ false → node₁ i ≡ node₂ j

  -- nor of what stands below it
  abbrev pub Alike : Forest ℕ → Forest ℕ → Type 0
  Alike empty empty = Unit {0}
  Alike empty (node j children rest) = ⊥
  Alike (node i children rest) empty = ⊥
  Alike (node i children₁ rest₁) (node j children₂ rest₂) =
      RowsAlike i j × (left_out node₁ hidden₁ i ≡ false → Alike children₁ children₂) × Alike rest₁ rest₂

  -- what is to be shown of them
  pub record SameWalk (o : ExtractOptions) (f g : Forest ℕ) : Type 0 where
    pub events : (d : ℕ) → walk.events node₁ hidden₁ d f ≡ map (event_by old) (walk.events node₂ hidden₂ d g)
    pub visits : walk.visits node₁ hidden₁ f ≡ walk.visits node₂ hidden₂ g
    pub pieces : (up : List ℕ) → pieces.pieces node₁ hidden₁ o (map old up) f ≡ map (piece_by old) (pieces.pieces node₂ hidden₂ o up g)

-- ---- pages; `filtered₁` and `filtered₂` say which rows `is_main_content` leaves out

module _ (old : ℕ → ℕ) (filtered₁ : ℕ → Bool) (p₁ : Page) (filtered₂ : ℕ → Bool) (p₂ : Page) (o : ExtractOptions) where
  pub record PagesAlike : Type 0 where
    pub tree : Alike old p₁.node (hidden filtered₁ p₁ o) p₂.node (hidden filtered₂ p₂ o) (tree_of p₁) (tree_of p₂)
    -- with main_content the need of work counts the names of rows that are left out too
    pub names : o.main_content ≡ true → longest_names p₁.node (length p₁.depths) ≡ longest_names p₂.node (length p₂.depths)

  -- what is to be shown of them: all of an extraction, whatever buffers are lent
  pub record SameExtraction : Type 0 where
    pub entries : extract.entries filtered₁ p₁ o ≡ map (entry_by old) (extract.entries filtered₂ p₂ o)
    pub visits : passes filtered₁ p₁ o ≡ passes filtered₂ p₂ o
    pub need : work_need filtered₁ p₁ o ≡ work_need filtered₂ p₂ o
    -- the state at its end has the text and the need of out
    pub run : serialized o (extract.entries filtered₁ p₁ o) ≡ run_by old (serialized o (extract.entries filtered₂ p₂ o))
    pub answer : (out work : ℕ) → extraction filtered₁ p₁ o out work ≡ extraction_by old (extraction filtered₂ p₂ o out work)
    pub out : (out work : Bytes) → out_after filtered₁ p₁ o out work ≡ out_after filtered₂ p₂ o out work
    pub work : (work : Bytes) → work_after filtered₁ p₁ o work ≡ work_after filtered₂ p₂ o work

-- ---- byte strings

-- what is to be shown of two sheets that show the same rows, with main_content off: whatever buffers are lent, the answer and what they then hold
pub record SameAnswers (filters : (ℕ → Node) → List ℕ → ℕ → ExtractOptions → ℕ → Bool) (s₁ s₂ : Bytes) (o : ExtractOptions) : Type 0 where
  pub answer : (out work : ℕ) → extraction_of filters s₁ o out work ≡ extraction_of filters s₂ o out work
  pub out : (out work : Bytes) → out_after_of filters s₁ o out work ≡ out_after_of filters s₂ o out work
  pub work : (work : Bytes) → work_after_of filters s₁ o work ≡ work_after_of filters s₂ o work
