-- Decoded sheets that differ in marks alone.
use Rattle.std.specs.Prelude.{◌≡◌, ℕ, ◌≤◌, length}
use Rattle.sheet.specs.declared.line.Row.{Row}
use Rattle.sheet_form.specs.Decoded.{Decoded, row_in, with_number, set_number}

-- a row with another mark
abbrev pub with_skip : ℕ → Row → Row
with_skip m r = with_number 2 m r

-- row i with another mark
abbrev pub set_skip : ℕ → ℕ → Decoded → Decoded
set_skip i m d = set_number i 2 m d

-- e is d but for marks
pub record ButMarks (d e : Decoded) : Type 0 where
  pub length_rows : length e.rows ≡ length d.rows
  pub row : (i : ℕ) → row_in e i ≡ with_skip (row_in e i).skip (row_in d i)
  pub mark : (i : ℕ) → (row_in e i).skip ≤ 1
  pub attributes : e.attributes ≡ d.attributes
  pub pool : e.pool ≡ d.pool
  pub root : e.root ≡ d.root
