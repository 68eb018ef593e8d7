-- What the marker does to a decoded sheet.
use Rattle.std.specs.Prelude.{Bool, ◌&&◌, cond, ℕ, zero, suc, ◌+◌, eqb, ltb, length}
use Rattle.options.specs.declared.ExtractOptions.{ExtractOptions}
use Rattle.sheet.specs.declared.line.Row.{Row}
use Rattle.sheet_form.specs.Decoded.{Decoded, row_in, range_in, depths_in}
use Rattle.sheet_form.specs.Encoding.{listed}
use Rattle.sheet_form.specs.Marks.{with_skip}
use Rattle.tags.specs.Words.{one_of}
use Rattle.tree.specs.Rows.{past_of}
use Rattle.marking.specs.Names.{skip_names}

module _ (o : ExtractOptions) (noscript : Bool) (d : Decoded) where
  -- row i stands below the root: behind it, and before the first row past all that stands below it
  abbrev pub is_below_root : ℕ → Bool
  is_below_root i = ltb d.root i && ltb i (past_of (depths_in d) d.root)

  -- an element whose name stands in the lists
  unfoldable pub is_listed : Row → Bool
  is_listed r = eqb r.kind 1 && one_of (range_in d r.name_at r.name_len) (skip_names o noscript)

  -- "every row below the root whose name stands in the fixed lists"
  unfoldable pub to_mark : ℕ → Bool
  to_mark i = is_below_root i && is_listed (row_in d i)

  abbrev pub marked_row : ℕ → Row
  marked_row i = cond (to_mark i) (with_skip 1 (row_in d i)) (row_in d i)

  -- "sets skip to 1": all else is as it was
  unfoldable pub marked : Decoded
  marked = record { rows = listed marked_row 0 (length d.rows); attributes = d.attributes; pool = d.pool; root = d.root }

  -- a mark that it sets: "rows already marked stay marked"
  abbrev pub is_new : ℕ → Bool
  is_new i = to_mark i && eqb (row_in d i).skip 0

  -- those among the first n rows
  unfoldable pub marks_to : ℕ → ℕ
  marks_to zero = 0
  marks_to (suc n) = marks_to n + cond (is_new n) 1 0

  -- "it says how many marks it set"
  abbrev pub marks : ℕ
  marks = marks_to (length d.rows)
