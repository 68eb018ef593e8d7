-- The bound of a row's text, as a loop over row numbers sums it.
use mathlib.Core.Path.{◌≡◌, sym, ap, ◌∙◌}
use Prim.Native.Nat.{ℕ, ◌+◌, ◌-◌, ◌*◌, ◌≤◌, ◌<◌}
use native.Mathlib.Numerals.{add-one}
use native.Mathlib.Omega.{arith}
use lib.ListN.{drop}
use Rattle.common.specs.Bytes.{Bytes, length_limit}
use Rattle.sheet.specs.Accepted.{Accepted}
use Rattle.sheet.specs.Layout.{node_start, row_at, depths}
use Rattle.sheet.specs.Lines.{number_at}
use Rattle.sheet.specs.declared.line.Layout.{Layout}
use Rattle.sheet.specs.declared.line.Row.{Row}
use Rattle.sheet.proofs.LayoutLaws.{row_there}
use Rattle.tree.specs.Page.{node_at}
use Rattle.tree.specs.Rows.{rows_from, past_from}
use Rattle.tree.proofs.Column.{below_length, past_length, depth_is}
use Rattle.tree.proofs.Descendants.{descendants, rows_done, rows_more}
use Rattle.tree.proofs.PastLaws.{past_low}
use Rattle.tree.proofs.Scans.{past_stop, past_more, past_done}
use Rattle.tree.proofs.SheetColumn.{well_formed}
use Rattle.visible_text.specs.VisibleText.{visible}
use Rattle.visible_text.proofs.CostLaws.{feeds, most_of, len_at, most_below, most_small, visible_most}

-- the value's length is the seventh number of a row
pub len_read : (s : Bytes) (l : Layout) (i : ℕ) → i < l.nodes → len_at s l i ≡ number_at l.width s (node_start l i + 6 * l.width)
len_read s l i h = ap (λ (r : Row). r.value_len) (row_there s l i h) ∙ ap (number_at l.width s) (omega arith)

-- what the rows from i up to p add at most: one row more, or none left
module _ (len : ℕ → ℕ) (i p : ℕ) where
  most_done : p ≤ i → most_of len (rows_from i (p - i)) ≡ 0
  unfolding most_of
  most_done h = ap (most_of len) (rows_done i p h)

  most_more : i < p → most_of len (rows_from i (p - i)) ≡ len i + feeds + most_of len (rows_from (i + 1) (p - (i + 1)))
  unfolding most_of
  most_more h = rw add-one (ap (most_of len) (rows_more i p h))

module _ (s : Bytes) (l : Layout) (d : ℕ) where
  -- what is left of the sum from row j on, below depth d
  abbrev pub left_from : ℕ → ℕ
  left_from j = most_of (len_at s l) (rows_from j (past_from d j (drop j (depths s l)) - j))

  pub left_done : (j : ℕ) → l.nodes ≤ j → left_from j ≡ 0
  left_done j h = most_done (len_at s l) j _ (omega (arith, past_done (depths s l) d j (past_length s l j h)))

  -- x is the depth of row j
  module _ (j : ℕ) {x : ℕ} (h : j < l.nodes) (e : x ≡ (row_at s l j).depth) where
    pub left_stop : x ≤ d → left_from j ≡ 0
    left_stop g = most_done (len_at s l) j _ (omega (arith, past_stop (depths s l) d j x (below_length s l j h) (depth_is s l j h e) g))

    pub left_more : d < x → left_from j ≡ len_at s l j + feeds + left_from (j + 1)
    left_more g =
        rw (past_more (depths s l) d j x (below_length s l j h) (depth_is s l j h e) g)
        (most_more (len_at s l) j _ (omega (arith, past_low d (j + 1) (drop (j + 1) (depths s l)))))

-- a loop that has summed n of the rows below `row`, where the rows from j on are left
module _ {s : Bytes} {l : Layout} {row d : ℕ} (a : Accepted s l) (h : row < l.nodes) (e : d ≡ (row_at s l row).depth) where
  all_below : left_from s l d (row + 1) ≡ most_below a row h
  all_below = rw (depth_is s l row h e, add-one) (sym (ap (most_of (len_at s l)) (descendants (depths s l) (well_formed a) row)))

  module _ (n j : ℕ) (sum : n + left_from s l d j ≡ left_from s l d (row + 1)) where
    pub sum_room : left_from s l d j ≡ len_at s l j + feeds + left_from s l d (j + 1) → n + len_at s l j + feeds < length_limit
    sum_room more = omega (arith, sum, more, all_below, most_small a row h)

    pub sum_enough : left_from s l d j ≡ 0 → (visible (node_at s l) (depths s l) row).peak ≤ n
    unfolding visible
    sum_enough none = omega (arith, sum, none, all_below, visible_most a row h)
