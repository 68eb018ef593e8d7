-- A decoded sheet, written and decoded, is what it was; and what is read of its bytes is what it has.
use mathlib.Core.Path.{◌≡◌, refl, sym, ap, ◌∙◌}
use mathlib.Core.List.{List, ◌++◌}
use Prim.Native.Nat.{ℕ, ◌+◌, ◌*◌, ◌<◌}
use native.Mathlib.Omega.{arith}
use lib.Dec.{ltb}
use lib.ListN.{length, get_or, drop, length-append, get_or-eq_default}
use lib.Seq.{drop-drop, drop-append-add}
use borrow.Author.Tests.{ltb-true, ltb-false}
use Rattle.common.specs.Bytes.{Bytes}
use Rattle.common.proofs.Choice.{by_test}
use Rattle.sheet.specs.Layout.{no_row, no_attribute, node_start, attribute_start, size_of, part_of, layout_of, row_at, attribute_at, pool_of, range}
use Rattle.sheet.specs.Lines.{quad_from}
use Rattle.sheet.specs.Notes.{Lined}
use Rattle.sheet.specs.Verdict.{node_format, attribute_format}
use Rattle.sheet.specs.Writing.{line}
use Rattle.sheet.specs.declared.line.Layout.{Layout}
use Rattle.sheet.proofs.FirstWrong.{none_wrong}
use Rattle.sheet.proofs.LayoutLaws.{range_in_pool}
use Rattle.sheet.proofs.WritingColumns.{line_length}
use Rattle.sheet_form.specs.Encoding.{lines, encode, decode, Fits}
use Rattle.sheet_form.specs.Decoded.{Decoded, row_numbers, attribute_numbers, header_numbers, row_in, attribute_in, range_in, layout_for}
use Rattle.sheet_form.proofs.LineBack.{Read, line_back, read_right, row_same, attribute_same}
use Rattle.sheet_form.proofs.Lists.{listed_is, lines_length, lines_at, lines_behind}

-- ---- where things stand, for any numbers

module _ (w : ℕ) (d : Decoded) where
  abbrev s : Bytes
  s = encode w d

  abbrev l : Layout
  l = layout_for w d

  abbrev behind_rows : Bytes
  behind_rows = lines attribute_numbers w d.attributes ++ d.pool

  header_length_law : length (line w (header_numbers (layout_for w d))) ≡ 4 * w + 1
  header_length_law = line_length w (header_numbers (layout_for w d))

  from_rows : (n : ℕ) → drop (4 * w + 1 + n) s ≡ drop n (lines row_numbers w d.rows ++ behind_rows)
  unfolding encode
  from_rows n = ap (λ (m : ℕ). drop (m + n) s) (sym header_length_law) ∙ drop-append-add (line w (header_numbers (layout_for w d))) _ n

  row_place : (i : ℕ) → i < length d.rows → (rest : Bytes) × (drop (node_start l i) s ≡ line w (row_numbers (row_in d i)) ++ rest)
  row_place i h =
      let p = lines_at row_numbers 8 w (λ r. refl) no_row d.rows i behind_rows h in
      (p.0, from_rows ((8 * w + 1) * i) ∙ p.1)

  rows_end : drop (node_start l (length d.rows)) s ≡ behind_rows
  rows_end = from_rows ((8 * w + 1) * length d.rows) ∙ lines_behind row_numbers 8 w (λ r. refl) d.rows behind_rows

  from_attributes : (n : ℕ) → drop (node_start l (length d.rows) + n) s ≡ drop n behind_rows
  from_attributes n = sym (drop-drop n (node_start l (length d.rows)) s) ∙ ap (drop n) rows_end

  attribute_place : (j : ℕ) → j < length d.attributes → (rest : Bytes) × (drop (attribute_start l j) s ≡ line w (attribute_numbers (attribute_in d j)) ++ rest)
  attribute_place j h =
      let p = lines_at attribute_numbers 4 w (λ a. refl) no_attribute d.attributes j d.pool h in
      (p.0, from_attributes ((4 * w + 1) * j) ∙ p.1)

  pub pool_is : pool_of s l ≡ d.pool
  pool_is = from_attributes ((4 * w + 1) * length d.attributes) ∙ lines_behind attribute_numbers 4 w (λ a. refl) d.attributes d.pool

  pub encode_length : length s ≡ size_of l
  unfolding encode
  encode_length =
      length-append (line w (header_numbers (layout_for w d))) _
      ∙ ap (λ (n : ℕ). length (line w (header_numbers (layout_for w d))) + n) (length-append (lines row_numbers w d.rows) behind_rows ∙ ap (λ (n : ℕ). length (lines row_numbers w d.rows) + n) (length-append (lines attribute_numbers w d.attributes) d.pool))
      ∙ omega (arith, header_length_law, lines_length row_numbers 8 w (λ r. refl) d.rows, lines_length attribute_numbers 4 w (λ a. refl) d.attributes)

  -- a range of the pool, past its end too
  pub range_is : (at len : ℕ) → range s l at len ≡ range_in d at len
  range_is at len = range_in_pool s l at len ∙ ap (λ (pool : Bytes). part_of pool at len) pool_is

-- ---- what is read, where the numbers have room

module _ (w : ℕ) (d : Decoded) (fits : Fits w d) where
  header_read : Read w fits.some_column (encode w d) 0 (header_numbers (layout_for w d))
  unfolding encode
  header_read = line_back w fits.some_column (encode w d) _ 0 fits.header refl

  row_read : (i : ℕ) → i < length d.rows → Read w fits.some_column (encode w d) (node_start (layout_for w d) i) (row_numbers (row_in d i))
  row_read i h = let p = row_place w d i h in line_back w fits.some_column (encode w d) p.0 (node_start (layout_for w d) i) (fits.row i h) p.1

  attribute_read : (j : ℕ) → j < length d.attributes → Read w fits.some_column (encode w d) (attribute_start (layout_for w d) j) (attribute_numbers (attribute_in d j))
  attribute_read j h =
      let p = attribute_place w d j h in line_back w fits.some_column (encode w d) p.0 (attribute_start (layout_for w d) j) (fits.attribute j h) p.1

  pub row_is : (i : ℕ) → row_at (encode w d) (layout_for w d) i ≡ row_in d i
  unfolding row_at
  row_is i =
      by_test (ltb i (length d.rows))
      (λ t. rw t (row_same _ _ (row_read i (ltb-true i (length d.rows) t)).numbers))
      (λ t. rw t (sym (get_or-eq_default d.rows no_row (ltb-false i (length d.rows) t))))

  pub attribute_is : (j : ℕ) → attribute_at (encode w d) (layout_for w d) j ≡ attribute_in d j
  unfolding attribute_at
  attribute_is j =
      by_test (ltb j (length d.attributes))
      (λ t. rw t (attribute_same _ _ (attribute_read j (ltb-true j (length d.attributes) t)).numbers))
      (λ t. rw t (sym (get_or-eq_default d.attributes no_attribute (ltb-false j (length d.attributes) t))))

  layout_is : layout_for w d ≡ layout_of w (quad_from w (encode w d) 0)
  layout_is = ap of_numbers (sym header_read.numbers)
    where
      of_numbers : List ℕ → Layout
      of_numbers ns = record { width = w; nodes = get_or ns 0 0; attributes = get_or ns 1 0; pool = get_or ns 2 0; root = get_or ns 3 0 }

  pub encode_lined : Lined (encode w d) (layout_for w d)
  unfolding node_format attribute_format
  encode_lined =
      record {
        width = fits.most_columns;
        header = read_right w fits.some_column (encode w d) header_read;
        layout = layout_is;
        size = encode_length w d;
        formats =
            record {
              of_nodes = none_wrong (node_format (encode w d) (layout_for w d)) (length d.rows) (λ i h. read_right w fits.some_column (encode w d) (row_read i h));
              of_attributes = none_wrong (attribute_format (encode w d) (layout_for w d)) (length d.attributes) (λ j h. read_right w fits.some_column (encode w d) (attribute_read j h));
            };
      }

  pub decode_encode : decode (layout_for w d) (encode w d) ≡ d
  unfolding decode
  decode_encode =
      rw (listed_is (row_at (encode w d) (layout_for w d)) no_row d.rows (λ i h. row_is i), listed_is (attribute_at (encode w d) (layout_for w d)) no_attribute d.attributes (λ j h. attribute_is j), pool_is w d)
