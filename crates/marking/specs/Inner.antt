-- What the inner functions ask for and promise.
use Rattle.std.specs.Prelude.{Bool, ◌&&◌, cond, ℕ, ◌+◌, ◌≤◌, eqb}
use Rattle.common.specs.Bytes.{Bytes}
use Rattle.options.specs.declared.ExtractOptions.{ExtractOptions}
use Rattle.sheet.specs.Layout.{row_at}
use Rattle.sheet.specs.declared.line.Layout.{Layout}
use Rattle.sheet.specs.declared.line.Row.{Row}
use Rattle.sheet_form.specs.Decoded.{Decoded}
use Rattle.sheet_form.specs.Encoding.{encode, decode}
use Rattle.sheet_form.specs.Marks.{set_skip}
use Rattle.marking.specs.Marks.{is_listed}

-- the name of row i lies in the pool
abbrev pub NameInside : Bytes → Layout → ℕ → Type 0
NameInside s l i = (row_at s l i).name_at + (row_at s l i).name_len ≤ l.pool

-- a row that is listed and has no mark
unfoldable pub is_new_row : ExtractOptions → Bool → Decoded → Row → Bool
is_new_row o noscript d r = is_listed o noscript d r && eqb r.skip 0

module _ (o : ExtractOptions) (noscript : Bool) (s : Bytes) (l : Layout) (i : ℕ) where
  -- row i, wherever it stands, gets a mark
  abbrev pub is_new_at : Bool
  is_new_at = is_new_row o noscript (decode l s) (row_at s l i)

  -- the sheet with that mark
  abbrev pub marked_at : Bytes
  marked_at = cond is_new_at (encode l.width (set_skip i 1 (decode l s))) s
