-- A sheet as decoded: its numbers and its pool, whatever the width of its columns (document 01, "The sheet").
use Rattle.std.specs.Prelude.{List, [], ◌∷◌, map, ℕ, ◌+◌, length, get_or, set}
use Rattle.common.specs.Bytes.{Bytes}
use Rattle.sheet.specs.Layout.{part_of, no_row, no_attribute}
use Rattle.sheet.specs.declared.line.Attribute.{Attribute}
use Rattle.sheet.specs.declared.line.Layout.{Layout}
use Rattle.sheet.specs.declared.line.Row.{Row}

pub record Decoded : Type 0 where
  pub rows : List Row
  pub attributes : List Attribute
  pub pool : Bytes
  pub root : ℕ

module _ (d : Decoded) where
  abbrev pub row_in : ℕ → Row
  row_in i = get_or d.rows i no_row

  abbrev pub attribute_in : ℕ → Attribute
  attribute_in j = get_or d.attributes j no_attribute

  abbrev pub range_in : ℕ → ℕ → Bytes
  range_in at len = part_of d.pool at len

  abbrev pub depths_in : List ℕ
  depths_in = map (λ (r : Row). r.depth) d.rows

-- the layout of its bytes in columns of width w
abbrev pub layout_for : ℕ → Decoded → Layout
layout_for w d = record { width = w; nodes = length d.rows; attributes = length d.attributes; pool = length d.pool; root = d.root }

-- the sum of the attribute counts
unfoldable pub counts_of : List Row → ℕ
counts_of [] = 0
counts_of (r ∷ rs) = r.attributes + counts_of rs

-- ---- the numbers of a line

-- "nodes N, attributes A, pool bytes P, chosen root row"
abbrev pub header_numbers : Layout → List ℕ
header_numbers l = l.nodes ∷ l.attributes ∷ l.pool ∷ l.root ∷ []

-- "depth, kind (1 element, 3 text, 8 comment), skip (0 or 1), name at, name length, value at, value length, attribute count"
abbrev pub row_numbers : Row → List ℕ
row_numbers r = r.depth ∷ r.kind ∷ r.skip ∷ r.name_at ∷ r.name_len ∷ r.value_at ∷ r.value_len ∷ r.attributes ∷ []

-- "name at, name length, value at, value length"
abbrev pub attribute_numbers : Attribute → List ℕ
attribute_numbers a = a.name_at ∷ a.name_len ∷ a.value_at ∷ a.value_len ∷ []

-- ---- one number changed

-- the row of eight numbers
abbrev pub row_of_numbers : List ℕ → Row
row_of_numbers ns =
    record {
      depth = get_or ns 0 0;
      kind = get_or ns 1 0;
      skip = get_or ns 2 0;
      name_at = get_or ns 3 0;
      name_len = get_or ns 4 0;
      value_at = get_or ns 5 0;
      value_len = get_or ns 6 0;
      attributes = get_or ns 7 0;
    }

-- a row with n as its number k: depth is 0, kind 1, skip 2, and so on
abbrev pub with_number : ℕ → ℕ → Row → Row
with_number k n r = row_of_numbers (set (row_numbers r) k n)

-- row i with n as its number k
unfoldable pub set_number : ℕ → ℕ → ℕ → Decoded → Decoded
set_number i k n d = record { rows = set d.rows i (with_number k n (row_in d i)); attributes = d.attributes; pool = d.pool; root = d.root }
