-- The lines of a sheet (document 01, "The sheet"), for numbers of any width w: document 01's sheets have 8.
use Rattle.std.specs.Prelude.{unwrap_or, Option, None, Some, Bool, true, false, ◌&&◌, cond, ℕ, zero, suc, ◌+◌, eqb, get_or, take, drop}
use Rattle.common.specs.Bytes.{Bytes}
use Rattle.sheet.specs.Columns.{field_of}
use Rattle.sheet.specs.declared.line.Attribute.{Attribute}
use Rattle.sheet.specs.declared.line.Quad.{Quad}
use Rattle.sheet.specs.declared.line.Row.{Row}

-- ---- numbers, one after the other

abbrev pub is_number : Option ℕ → Bool
is_number (Some n) = true
is_number None = false

-- the number of a field, 0 where it holds none
abbrev pub number_in : Option ℕ → ℕ
number_in v = unwrap_or v 0

unfoldable pub field_at : ℕ → Bytes → ℕ → Option ℕ
field_at w s at = field_of (take w (drop at s))

abbrev pub number_at : ℕ → Bytes → ℕ → ℕ
number_at w s at = number_in (field_at w s at)

-- k numbers from `at` on
abbrev pub numbers_right : ℕ → Bytes → ℕ → ℕ → Bool
numbers_right w s at zero = true
numbers_right w s at (suc k) = is_number (field_at w s at) && numbers_right w s (at + w) k

-- the place behind k numbers
abbrev pub after : ℕ → ℕ → ℕ → ℕ
after w at zero = at
after w at (suc k) = after w (at + w) k

-- k numbers and LF
abbrev pub line_right : ℕ → Bytes → ℕ → ℕ → Bool
line_right w s at k = eqb (get_or s (after w at k) 0) 10 && numbers_right w s at k

abbrev pub quad_from : ℕ → Bytes → ℕ → Quad
quad_from w s at =
    record { first = number_at w s at; second = number_at w s (after w at 1); third = number_at w s (after w at 2); fourth = number_at w s (after w at 3) }

-- "depth, kind (1 element, 3 text, 8 comment), skip (0 or 1), name at, name length, value at, value length, attribute count"
abbrev pub row_of : Quad → Quad → Row
row_of x y =
    record {
      depth = x.first;
      kind = x.second;
      skip = x.third;
      name_at = x.fourth;
      name_len = y.first;
      value_at = y.second;
      value_len = y.third;
      attributes = y.fourth;
    }

abbrev pub row_from : ℕ → Bytes → ℕ → Row
row_from w s at = row_of (quad_from w s at) (quad_from w s (after w at 4))

-- "name at, name length, value at, value length"
abbrev pub attribute_of : Quad → Attribute
attribute_of x = record { name_at = x.first; name_len = x.second; value_at = x.third; value_len = x.fourth }

abbrev pub attribute_from : ℕ → Bytes → ℕ → Attribute
attribute_from w s at = attribute_of (quad_from w s at)

unfoldable pub four_of : ℕ → Bytes → ℕ → Option Quad
four_of w s at = cond (numbers_right w s at 4) (Some (quad_from w s at)) None

unfoldable pub short_line_of : ℕ → Bytes → ℕ → Option Quad
short_line_of w s at = cond (line_right w s at 4) (Some (quad_from w s at)) None

unfoldable pub node_line_of : ℕ → Bytes → ℕ → Option Row
node_line_of w s at = cond (line_right w s at 8) (Some (row_from w s at)) None
