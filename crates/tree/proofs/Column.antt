-- The depth column of an accepted sheet: its length, its entries and their bound.
use mathlib.Core.Path.{◌≡◌, sym, ◌∙◌}
use Prim.Native.Nat.{ℕ, zero, suc, ◌+◌, ◌≤◌, ◌<◌}
use native.Mathlib.Omega.{arith}
use lib.ListN.{length, get_or, drop}
use Rattle.common.specs.Bytes.{Bytes}
use Rattle.sheet.specs.Accepted.{Accepted}
use Rattle.sheet.specs.Layout.{most_depth, row_at, depths}
use Rattle.sheet.specs.declared.line.Layout.{Layout}
use Rattle.sheet.proofs.LayoutLaws.{depths_from_length, depths_at}
use Rattle.tree.specs.Rows.{scan_of, first_child_of, next_sibling_of}
use Rattle.tree.proofs.Scans.{first_child_start, next_sibling_start}

module _ (s : Bytes) (l : Layout) where
  pub below_length : (i : ℕ) → i < l.nodes → i < length (depths s l)
  below_length i h = rw (depths_from_length s l 0 l.nodes) h

  pub past_length : (i : ℕ) → l.nodes ≤ i → length (depths s l) ≤ i
  past_length i h = rw (depths_from_length s l 0 l.nodes) h

  -- a depth that is read is the column's
  pub depth_is : {x : ℕ} (i : ℕ) → i < l.nodes → x ≡ (row_at s l i).depth → x ≡ get_or (depths s l) i 0
  depth_is i h e = e ∙ sym (depths_at s l i h)

  pub depth_small : Accepted s l → (i : ℕ) → i < l.nodes → (row_at s l i).depth ≤ most_depth
  depth_small a zero h = omega (arith, a.body_depth)
  depth_small a (suc i) h = (a.later i h).depth_within

  -- the scans that begin behind row i, by its depth
  pub first_child_from : {x : ℕ} (i : ℕ) → i < l.nodes → x ≡ (row_at s l i).depth → scan_of (x + 1) (i + 1) (drop (i + 1) (depths s l)) ≡ first_child_of (depths s l) i
  first_child_from i h e = rw (depth_is i h e) (sym (first_child_start (depths s l) i))

  pub next_sibling_from : {x : ℕ} (i : ℕ) → i < l.nodes → x ≡ (row_at s l i).depth → scan_of x (i + 1) (drop (i + 1) (depths s l)) ≡ next_sibling_of (depths s l) i
  next_sibling_from i h e = rw (depth_is i h e) (sym (next_sibling_start (depths s l) i))
