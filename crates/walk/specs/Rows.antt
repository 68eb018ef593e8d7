-- What is noted of the rows of a sheet.
use Rattle.std.specs.Prelude.{◌≡◌, Bool, false, List, ℕ, ◌≤◌, ◌<◌, length, get_or}
use Rattle.common.specs.Bytes.{Bytes}
use Rattle.sheet.specs.Layout.{row_at}
use Rattle.sheet.specs.Verdict.{counts_from}
use Rattle.sheet.specs.declared.line.Layout.{Layout}
use Rattle.tags.specs.Tags.{tag_of}
use Rattle.tree.specs.Node.{tag}
use Rattle.tree.specs.Page.{node_at, page_of}
use Rattle.html2text.specs.Walk.{left_out}

-- a place for each of n rows
pub record Columns (n : ℕ) (depths tags attributes values lengths : List ℕ) (left : List Bool) : Type 0 where
  pub depths_long : n ≤ length depths
  pub tags_long : n ≤ length tags
  pub attributes_long : n ≤ length attributes
  pub values_long : n ≤ length values
  pub lengths_long : n ≤ length lengths
  pub left_long : n ≤ length left

-- of the first n rows: the depth, the number of the tag, the first attribute line, the range of the value, and whether the row is a
-- comment or marked
pub record RowsRead (s : Bytes) (l : Layout) (n : ℕ) (depths tags attributes values lengths : List ℕ) (left : List Bool) : Type 0 where
  pub depth : (i : ℕ) → i < n → get_or depths i 0 ≡ (row_at s l i).depth
  pub tag_number : (i : ℕ) → i < n → get_or tags i 0 ≡ tag_of (tag (node_at s l i))
  pub first : (i : ℕ) → i < n → get_or attributes i 0 ≡ counts_from s l 0 i
  pub value_at : (i : ℕ) → i < n → get_or values i 0 ≡ (row_at s l i).value_at
  pub value_len : (i : ℕ) → i < n → get_or lengths i 0 ≡ (row_at s l i).value_len
  pub left_is : (i : ℕ) → i < n → get_or left i false ≡ left_out (node_at s l) (page_of s l).marked i
