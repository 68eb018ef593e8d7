-- The page of an accepted sheet: well-formed depths, a root among its rows, and parents that are elements.
use Rattle.std.proofs.lemmas.Option.{none-some, same_Some}
use Rattle.std.specs.Prelude.{Some}
use mathlib.Core.Path.{◌≡◌, sym, ◌∙◌}
use Prim.Native.Nat.{ℕ, zero, suc, ◌<◌}
use native.Mathlib.Omega.{arith}
use lib.ListN.{length}
use Rattle.common.specs.Bytes.{Bytes}
use Rattle.sheet.specs.Accepted.{Accepted}
use Rattle.sheet.specs.Column.{parent_of}
use Rattle.sheet.specs.Layout.{depths, row_at}
use Rattle.sheet.specs.declared.line.Layout.{Layout}
use Rattle.sheet.proofs.LayoutLaws.{depths_from_length}
use Rattle.tree.specs.Node.{element}
use Rattle.tree.specs.Page.{kind_of, node_at, page_of}
use Rattle.tree.proofs.SheetColumn.{well_formed}
use Rattle.html2text.specs.Theorems.{PageRight}

module _ {s : Bytes} {l : Layout} (accepted : Accepted s l) where
  rows : length (depths s l) ≡ l.nodes
  rows = depths_from_length s l 0 l.nodes

  element_at : (i : ℕ) → (row_at s l i).kind ≡ 1 → (node_at s l i).kind ≡ element
  unfolding node_at kind_of
  element_at i e = rw e

  parent_element : (i j : ℕ) → j < length (depths s l) → parent_of (depths s l) j ≡ Some i → (node_at s l i).kind ≡ element
  parent_element i zero h e = absurd (none-some i e)
  parent_element i (suc j) h e =
      let q = (accepted.later j (omega (arith, rows))).parent in
      element_at i (rw (same_Some q.0 i (sym q.1 ∙ e)) at q.2)

  pub page_right : PageRight (page_of s l)
  page_right = record { column = well_formed accepted; root = omega (arith, rows, accepted.sized.root); parent = parent_element }
