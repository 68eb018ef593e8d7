-- What is wrong with a decoded sheet (document 01, "Who can cause which number", 13 to 17), with the line that is named.
use Rattle.sheet.specs.declared.line.Layout.{Layout}
use Rattle.std.specs.Prelude.{Bool, ◌&&◌, not, cond, ℕ, ◌+◌, leb, ltb, eqb, length, Option, Result, Ok, Err}
use Rattle.sheet.specs.Layout.{most_rows, most_attributes, pool_limit}
use Rattle.sheet.specs.Verdict.{first_wrong, stage, kind_right, row_ranges, row_texts, attribute_ranges, attribute_texts, place_right}
use Rattle.sheet.specs.declared.verdict.SheetError.{SheetError}
use Rattle.sheet.specs.declared.verdict.SheetError.TheVariants.{Counts, Kind, Tree, Range, Encoding}
use Rattle.sheet_form.specs.Decoded.{Decoded, counts_of, row_in, attribute_in, depths_in, layout_for}

module _ (d : Decoded) where
  -- "N 1 to 20,000; A to 60,000; P to ..", and "root not below N"
  unfoldable pub counts_in : ℕ → Bool
  counts_in limit =
      leb 1 (length d.rows)
      && (leb (length d.rows) most_rows
      && (leb (length d.attributes) most_attributes
      && (leb (length d.pool) limit
      && ltb d.root (length d.rows))))

  unfoldable pub kind_in : ℕ → Bool
  kind_in i = kind_right (row_in d i)

  unfoldable pub tree_in : ℕ → Bool
  tree_in i = place_right d.pool (row_in d) (depths_in d) i

  unfoldable pub row_range_in : ℕ → Bool
  row_range_in i = row_ranges d.pool (row_in d i)

  unfoldable pub attribute_range_in : ℕ → Bool
  attribute_range_in j = attribute_ranges d.pool (attribute_in d j)

  unfoldable pub row_text_in : ℕ → Bool
  row_text_in i = row_texts d.pool (row_in d i)

  unfoldable pub attribute_text_in : ℕ → Bool
  attribute_text_in j = attribute_texts d.pool (attribute_in d j)

  abbrev pub rows_in : (ℕ → Bool) → Option ℕ
  rows_in right = first_wrong right 0 (length d.rows)

  abbrev pub attributes_in : (ℕ → Bool) → Option ℕ
  attributes_in right = first_wrong right 0 (length d.attributes)

  -- `accepted`, or the first that is wrong
  unfoldable pub judged_in : Result Layout SheetError → Result Layout SheetError
  judged_in accepted =
      -- 15
      stage (rows_in kind_in) (λ i. Kind (i + 1))
      -- 14, "root not an element (line 0, last)"
      (stage (rows_in tree_in) (λ i. Tree (i + 1))
      (cond (not (eqb (row_in d d.root).kind 1)) (Err (Tree 0))
      -- 16, "then attribute counts not summing to A (line 0)"
      (stage (rows_in row_range_in) (λ i. Range (i + 1))
      (stage (attributes_in attribute_range_in) (λ j. Range (length d.rows + j + 1))
      (cond (not (eqb (counts_of d.rows) (length d.attributes))) (Err (Range 0))
      -- 17
      (stage (rows_in row_text_in) (λ i. Encoding (i + 1))
      (stage (attributes_in attribute_text_in) (λ j. Encoding (length d.rows + j + 1))
      accepted)))))))

-- the whole verdict on a decoded sheet that is written in columns of width w; "Counts out of range, or root not below N: 13"
unfoldable pub verdict_in : ℕ → Decoded → Result Layout SheetError
verdict_in w d = cond (not (counts_in d (pool_limit w))) (Err Counts) (judged_in d (Ok (layout_for w d)))
