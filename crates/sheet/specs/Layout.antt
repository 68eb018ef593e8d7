-- Where the lines of a sheet stand (document 01, "The sheet"): header, node lines, attribute lines, pool.
use Rattle.std.specs.Prelude.{cond, List, [], ◌∷◌, ℕ, zero, suc, ◌+◌, ◌*◌, ltb, take, drop}
use Rattle.common.specs.Bytes.{Bytes}
use Rattle.sheet.specs.Lines.{row_from, attribute_from}
use Rattle.sheet.specs.declared.line.Attribute.{Attribute}
use Rattle.sheet.specs.declared.line.Layout.{Layout}
use Rattle.sheet.specs.declared.line.Quad.{Quad}
use Rattle.sheet.specs.declared.line.Row.{Row}

-- "Header, 33 bytes", "node lines, 65 bytes", "attribute lines, 33 bytes"
abbrev pub header_length : ℕ → ℕ
header_length w = 4 * w + 1

abbrev pub node_length : ℕ → ℕ
node_length w = 8 * w + 1

abbrev pub attribute_length : ℕ → ℕ
attribute_length w = 4 * w + 1

abbrev pub node_start : Layout → ℕ → ℕ
node_start l i = header_length l.width + node_length l.width * i

abbrev pub attribute_start : Layout → ℕ → ℕ
attribute_start l j = node_start l l.nodes + attribute_length l.width * j

abbrev pub pool_start : Layout → ℕ
pool_start l = attribute_start l l.attributes

-- "33 + 65·N + 33·A + P"
abbrev pub size_of : Layout → ℕ
size_of l = pool_start l + l.pool

-- "N 1 to 20,000"
abbrev pub most_rows : ℕ
most_rows = 20000

-- "A to 60,000"
abbrev pub most_attributes : ℕ
most_attributes = 60000

-- a depth is not "above 500"
abbrev pub most_depth : ℕ
most_depth = 500

-- "P to 4,194,304", at every width
abbrev pub pool_limit : ℕ → ℕ
pool_limit w = 4194304

-- a range of a pool: "At" counts from its start
abbrev pub part_of : Bytes → ℕ → ℕ → Bytes
part_of pool at len = take len (drop at pool)

-- "nodes N, attributes A, pool bytes P, chosen root row"
abbrev pub layout_of : ℕ → Quad → Layout
layout_of w q = record { width = w; nodes = q.first; attributes = q.second; pool = q.third; root = q.fourth }

-- what stands past the last row, and past the last attribute
abbrev pub no_row : Row
no_row = record { depth = 0; kind = 0; skip = 0; name_at = 0; name_len = 0; value_at = 0; value_len = 0; attributes = 0 }

abbrev pub no_attribute : Attribute
no_attribute = record { name_at = 0; name_len = 0; value_at = 0; value_len = 0 }

module _ (s : Bytes) (l : Layout) where
  unfoldable pub row_at : ℕ → Row
  row_at i = cond (ltb i l.nodes) (row_from l.width s (node_start l i)) no_row

  unfoldable pub attribute_at : ℕ → Attribute
  attribute_at j = cond (ltb j l.attributes) (attribute_from l.width s (attribute_start l j)) no_attribute

  -- "The pool": what stands behind the lines
  abbrev pub pool_of : Bytes
  pool_of = drop (pool_start l) s

  -- a range of it
  abbrev pub range : ℕ → ℕ → Bytes
  range at len = take len (drop (pool_start l + at) s)

  -- the column of depths of n rows from row i on
  unfoldable pub depths_from : ℕ → ℕ → List ℕ
  depths_from i zero = []
  depths_from i (suc n) = (row_at i).depth ∷ depths_from (suc i) n

  abbrev pub depths : List ℕ
  depths = depths_from 0 l.nodes
