-- A decoded sheet that is right, in document 01's sentences; nothing here knows a width.
use Rattle.std.specs.Prelude.{◌≡◌, true, ℕ, suc, ◌+◌, ◌≤◌, ◌<◌, length, Some}
use Rattle.common.specs.Bytes.{codes}
use Rattle.utf8.specs.Valid.{valid}
use Rattle.sheet.specs.Accepted.{KindOf}
use Rattle.sheet.specs.Column.{parent_of}
use Rattle.sheet.specs.Layout.{most_rows, most_attributes, most_depth}
use Rattle.sheet_form.specs.Decoded.{Decoded, counts_of, row_in, attribute_in, range_in, depths_in}

module _ (d : Decoded) where
  -- a range that lies in the pool and is UTF-8
  pub record TextIn (at len : ℕ) : Type 0 where
    pub inside : at + len ≤ length d.pool
    pub utf8 : valid (range_in d at len) ≡ true

  -- a row behind row i
  pub record LaterIn (i : ℕ) : Type 0 where
    pub some_depth : 1 ≤ (row_in d (suc i)).depth
    pub depth_within : (row_in d (suc i)).depth ≤ most_depth
    pub no_jump : (row_in d (suc i)).depth ≤ suc (row_in d i).depth
    pub parent : (j : ℕ) × (parent_of (depths_in d) (suc i) ≡ Some j) × ((row_in d j).kind ≡ 1)

  pub record Right : Type 0 where
    -- "N 1 to 20,000; A to 60,000"
    pub some_row : 1 ≤ length d.rows
    pub rows : length d.rows ≤ most_rows
    pub attributes : length d.attributes ≤ most_attributes
    pub kind : (i : ℕ) → i < length d.rows → KindOf (row_in d i)
    -- row 0 is "an element named body at depth 0"
    pub body_depth : (row_in d 0).depth ≡ 0
    pub body_element : (row_in d 0).kind ≡ 1
    pub body_name : range_in d (row_in d 0).name_at (row_in d 0).name_len ≡ codes "body"
    pub later : (i : ℕ) → suc i < length d.rows → LaterIn i
    -- the root is a row, and an element
    pub root_row : d.root < length d.rows
    pub root_element : (row_in d d.root).kind ≡ 1
    pub name : (i : ℕ) → i < length d.rows → TextIn (row_in d i).name_at (row_in d i).name_len
    pub value : (i : ℕ) → i < length d.rows → TextIn (row_in d i).value_at (row_in d i).value_len
    pub attribute_name : (j : ℕ) → j < length d.attributes → TextIn (attribute_in d j).name_at (attribute_in d j).name_len
    pub attribute_value : (j : ℕ) → j < length d.attributes → TextIn (attribute_in d j).value_at (attribute_in d j).value_len
    -- "attribute counts .. summing to A"
    pub counts : counts_of d.rows ≡ length d.attributes
