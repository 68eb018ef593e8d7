-- What is wrong with a sheet (document 01, "Who can cause which number", 11 to 17), stage by stage in its order.
use Rattle.std.specs.Prelude.{Bool, true, false, ◌&&◌, ◌||◌, not, cond, List, ℕ, zero, suc, ◌+◌, leb, ltb, eqb, length, Option, None, Some, Result, Ok, Err}
use Rattle.common.specs.Answer.{Answer, refused, written}
use Rattle.common.specs.Bytes.{Bytes, codes, same}
use Rattle.common.specs.Refusals.{wrong_length, wrong_format, wrong_counts, wrong_tree, wrong_kind, wrong_range, not_utf8}
use Rattle.utf8.specs.Valid.{valid}
use Rattle.sheet.specs.Column.{parent_of}
use Rattle.sheet.specs.Layout.{header_length, node_start, attribute_start, size_of, most_rows, most_attributes, most_depth, pool_limit, part_of, layout_of, row_at, attribute_at, pool_of, depths}
use Rattle.sheet.specs.Lines.{line_right, quad_from}
use Rattle.sheet.specs.declared.line.Attribute.{Attribute}
use Rattle.sheet.specs.declared.line.Layout.{Layout}
use Rattle.sheet.specs.declared.line.Row.{Row}
use Rattle.sheet.specs.declared.verdict.SheetError.{SheetError}
use Rattle.sheet.specs.declared.verdict.SheetError.TheVariants.{Length, Format, Counts, Kind, Tree, Range, Encoding}

-- the first of n lines from line i on that is not right
abbrev pub first_wrong : (ℕ → Bool) → ℕ → ℕ → Option ℕ
first_wrong right i zero = None
first_wrong right i (suc n) = elim (right i) [ false ↦ Some i | true ↦ first_wrong right (suc i) n ]

-- a stage over lines: refused at the first line that is not right
abbrev pub stage : Option ℕ → (ℕ → SheetError) → Result Layout SheetError → Result Layout SheetError
stage (Some i) refuse next = Err (refuse i)
stage None refuse next = next

-- "N 1 to 20,000; A to 60,000; P to 4,194,304", and "root not below N"
unfoldable pub counts_right : Layout → Bool
counts_right l =
    leb 1 l.nodes
    && (leb l.nodes most_rows
    && (leb l.attributes most_attributes
    && (leb l.pool (pool_limit l.width)
    && ltb l.root l.nodes)))

-- "kind or skip not listed; a non-element with a name or attributes (length or count not 0); an element with a value length not 0"
unfoldable pub kind_right : Row → Bool
kind_right r =
    (eqb r.kind 1 || (eqb r.kind 3 || eqb r.kind 8))
    && (leb r.skip 1 && cond (eqb r.kind 1) (eqb r.value_len 0) (eqb r.name_len 0 && eqb r.attributes 0))

-- ---- the ranges of a pool

module _ (pool : Bytes) where
  -- "at + length exceeds P"
  abbrev pub inside : ℕ → ℕ → Bool
  inside at len = leb (at + len) (length pool)

  -- a range that lies in the pool and is UTF-8
  unfoldable pub text_right : ℕ → ℕ → Bool
  text_right at len = inside at len && valid (part_of pool at len)

  -- the same of a name and a value
  abbrev pub ranges_right : ℕ → ℕ → ℕ → ℕ → Bool
  ranges_right at len at' len' = inside at len && inside at' len'

  abbrev pub texts_right : ℕ → ℕ → ℕ → ℕ → Bool
  texts_right at len at' len' = text_right at len && text_right at' len'

  abbrev pub row_ranges : Row → Bool
  row_ranges r = ranges_right r.name_at r.name_len r.value_at r.value_len

  abbrev pub row_texts : Row → Bool
  row_texts r = texts_right r.name_at r.name_len r.value_at r.value_len

  abbrev pub attribute_ranges : Attribute → Bool
  attribute_ranges a = ranges_right a.name_at a.name_len a.value_at a.value_len

  abbrev pub attribute_texts : Attribute → Bool
  attribute_texts a = texts_right a.name_at a.name_len a.value_at a.value_len

  -- "an element named body at depth 0 (a name range past the pool is not that name)"
  unfoldable pub body_right : Row → Bool
  body_right r =
      eqb r.kind 1
      && (eqb r.depth 0 && (inside r.name_at r.name_len && same (part_of pool r.name_at r.name_len) (codes "body")))

-- ---- a row's place in the tree, by the rows and the column of their depths

abbrev pub is_element : (ℕ → Row) → Option ℕ → Bool
is_element row None = false
is_element row (Some j) = eqb (row j).kind 1

-- "a later depth is 0, above 500 or more than one above the row before; a parent is not an element"
abbrev pub place_right : Bytes → (ℕ → Row) → List ℕ → ℕ → Bool
place_right pool row depths zero = body_right pool (row 0)
place_right pool row depths (suc i) =
    leb 1 (row (suc i)).depth
    && (leb (row (suc i)).depth most_depth
    && (leb (row (suc i)).depth (suc (row i).depth)
    && is_element row (parent_of depths (suc i))))

-- ---- the lines of a sheet

module _ (s : Bytes) (l : Layout) where
  -- "a field or line end is not as above"
  unfoldable pub node_format : ℕ → Bool
  node_format i = line_right l.width s (node_start l i) 8

  unfoldable pub attribute_format : ℕ → Bool
  attribute_format j = line_right l.width s (attribute_start l j) 4

  unfoldable pub node_kind : ℕ → Bool
  node_kind i = kind_right (row_at s l i)

  unfoldable pub node_tree : ℕ → Bool
  node_tree i = place_right (pool_of s l) (row_at s l) (depths s l) i

  unfoldable pub node_range : ℕ → Bool
  node_range i = row_ranges (pool_of s l) (row_at s l i)

  unfoldable pub attribute_range : ℕ → Bool
  attribute_range j = attribute_ranges (pool_of s l) (attribute_at s l j)

  unfoldable pub node_text : ℕ → Bool
  node_text i = row_texts (pool_of s l) (row_at s l i)

  unfoldable pub attribute_text : ℕ → Bool
  attribute_text j = attribute_texts (pool_of s l) (attribute_at s l j)

  -- the attribute counts of n rows from row i on
  unfoldable pub counts_from : ℕ → ℕ → ℕ
  counts_from i zero = 0
  counts_from i (suc n) = (row_at s l i).attributes + counts_from (suc i) n

  -- what the node lines and the attribute lines have first at fault
  abbrev pub nodes : (ℕ → Bool) → Option ℕ
  nodes right = first_wrong right 0 l.nodes

  abbrev pub attributes : (ℕ → Bool) → Option ℕ
  attributes right = first_wrong right 0 l.attributes

  -- the line of a node, and of an attribute: the header is line 0
  abbrev pub node_line : ℕ → ℕ
  node_line i = i + 1

  abbrev pub attribute_line : ℕ → ℕ
  attribute_line j = l.nodes + j + 1

  -- 12 to 17, over a sheet whose header is right and whose length is what the header says
  unfoldable pub judged : Result Layout SheetError
  judged =
      -- 12
      stage (nodes node_format) (λ i. Format (node_line i))
      (stage (attributes attribute_format) (λ j. Format (attribute_line j))
      -- 15
      (stage (nodes node_kind) (λ i. Kind (node_line i))
      -- 14, "root not an element (line 0, last)"
      (stage (nodes node_tree) (λ i. Tree (node_line i))
      (cond (not (eqb (row_at s l l.root).kind 1)) (Err (Tree 0))
      -- 16, "then attribute counts not summing to A (line 0)"
      (stage (nodes node_range) (λ i. Range (node_line i))
      (stage (attributes attribute_range) (λ j. Range (attribute_line j))
      (cond (not (eqb (counts_from 0 l.nodes) l.attributes)) (Err (Range 0))
      -- 17
      (stage (nodes node_text) (λ i. Encoding (node_line i))
      (stage (attributes attribute_text) (λ j. Encoding (attribute_line j))
      (Ok l))))))))))

-- the whole verdict on a byte string, for numbers of width w
unfoldable pub verdict_of : ℕ → Bytes → Result Layout SheetError
verdict_of w s =
    let l = layout_of w (quad_from w s 0) in
    -- 11, "shorter than 33 bytes (second number 33)"
    cond (ltb (length s) (header_length w)) (Err (Length (header_length w)))
    -- "Header fields or its line end: 12"
    (cond (not (line_right w s 0 4)) (Err (Format 0))
    -- "Counts out of range, or root not below N: 13"
    (cond (not (counts_right l)) (Err Counts)
    -- "Then 11 again: length is not 33 + 65·N + 33·A + P (second number: that sum)"
    (cond (not (eqb (length s) (size_of l))) (Err (Length (size_of l)))
    (judged s l))))

-- the verdict on a byte string: a sheet's numbers stand "in 8 columns"
abbrev pub verdict : Bytes → Result Layout SheetError
verdict s = verdict_of 8 s

-- the same up to the lines: the layout, where the header is right and the length is what it says
unfoldable pub header_of : ℕ → Bytes → Result Layout SheetError
header_of w s =
    let l = layout_of w (quad_from w s 0) in
    cond (ltb (length s) (header_length w)) (Err (Length (header_length w)))
    (cond (not (line_right w s 0 4)) (Err (Format 0))
    (cond (not (counts_right l)) (Err Counts)
    (cond (not (eqb (length s) (size_of l))) (Err (Length (size_of l)))
    (Ok l))))

abbrev pub is_sheet : Result Layout SheetError → Bool
is_sheet (Ok l) = true
is_sheet (Err e) = false

-- the numbers of each case
abbrev pub refusal : SheetError → Answer
refusal (Length n) = refused wrong_length n
refusal (Format line) = refused wrong_format line
refusal Counts = refused wrong_counts 0
refusal (Tree line) = refused wrong_tree line
refusal (Kind line) = refused wrong_kind line
refusal (Range line) = refused wrong_range line
refusal (Encoding line) = refused not_utf8 line

abbrev pub numbers : Result Layout SheetError → Answer
numbers (Ok l) = written 0
numbers (Err e) = refusal e
