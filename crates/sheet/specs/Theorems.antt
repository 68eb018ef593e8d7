-- What is to be shown of the verdict on a sheet, as types.
use Rattle.std.specs.Prelude.{◌≡◌, Bool, true, false, ◌&&◌, ℕ, zero, suc, ◌≤◌, Ok, Some, None}
use Rattle.common.specs.Bytes.{Bytes}
use Rattle.sheet.specs.Accepted.{Accepted}
use Rattle.sheet.specs.Layout.{node_start, pool_of}
use Rattle.sheet.specs.Lines.{node_line_of}
use Rattle.sheet.specs.Notes.{row_right, rest_right}
use Rattle.sheet.specs.Verdict.{counts_from, judged, verdict_of, is_sheet}
use Rattle.sheet.specs.declared.line.Layout.{Layout}
use Rattle.sheet.specs.declared.line.Row.{Row}

-- what is accepted is a sheet in document 01's sense, for numbers of any width up to 10: document 01's have 8
abbrev pub AcceptedIsSheet : Type 0
AcceptedIsSheet = (w : ℕ) → w ≤ 10 → (s : Bytes) (l : Layout) → verdict_of w s ≡ Ok l → (l.width ≡ w) × Accepted s l

-- n rows from row i on are right one after the other, each by the row before it
unfoldable pub rows_right : Bytes → Layout → ℕ → Row → ℕ → Bool
rows_right s l i before zero = true
rows_right s l i before (suc n) =
    elim (node_line_of l.width s (node_start l i)) [ Some r ↦ row_right (pool_of s l) i before r && rows_right s l (suc i) r n | None ↦ false ]

-- the lines of a sheet are accepted exactly where its rows are right one after the other, and its counts, root and attribute lines are; what
-- `before` says is never asked, since no row stands before row 0
abbrev pub AcceptedRowByRow : Type 0
AcceptedRowByRow = (s : Bytes) (l : Layout) (before : Row)
    → is_sheet (judged s l) ≡ (rows_right s l 0 before l.nodes && rest_right s l (counts_from s l 0 l.nodes))
