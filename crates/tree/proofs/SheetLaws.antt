-- The page of an accepted sheet: its column is that of a tree, and what its rows show is UTF-8.
use Rattle.std.proofs.lemmas.Option.{none-some, same_Some}
use Rattle.std.specs.Prelude.{Some, slice_get}
use mathlib.Core.Path.{◌≡◌, refl, sym, ap, ◌∙◌}
use Prim.Native.Nat.{ℕ, zero, suc, ◌+◌, ◌<◌}
use native.Mathlib.Omega.{arith}
use lib.Dec.{lit≤}
use Rattle.common.specs.Bytes.{Bytes}
use Rattle.sheet.specs.Layout.{row_at, depths}
use Rattle.sheet.specs.Verdict.{counts_from}
use Rattle.sheet.specs.declared.line.Layout.{Layout}
use Rattle.sheet.proofs.Acceptance.{accepts}
use Rattle.utf8.proofs.Encodings.{valid_utf8}
use Rattle.tree.specs.Attributes.{name_at, value_at, attributes_from}
use Rattle.tree.specs.Node.{Attribute}
use Rattle.tree.specs.Page.{node_at}
use Rattle.tree.specs.TextContent.{text_content}
use Rattle.tree.specs.Theorems.{RangeIsValue, SheetIsTree}
use Rattle.tree.proofs.AttributeLines.{find_is, counts_fit}
use Rattle.tree.proofs.SheetColumn.{rows, well_formed}
use Rattle.tree.proofs.TreeLaws.{tree_of_column}

pub range_is_value : RangeIsValue
unfolding node_at
range_is_value s l i name = find_is s l name (counts_from s l 0 i) (row_at s l i).attributes

module _ (s : Bytes) (l : Layout) where
  -- an attribute among n from line j on is one of those lines
  attribute_line : (j n k : ℕ) (a : Attribute) → slice_get (attributes_from s l j n) k ≡ Some a → (k < n) × (a ≡ record { name = name_at s l (j + k); value = value_at s l (j + k) })
  unfolding attributes_from
  attribute_line j zero k a e = absurd (none-some a e)
  attribute_line j (suc n) zero a e =
      let z : j + 0 ≡ j = omega arith in
      (omega arith, rw z (sym (same_Some _ a e)))
  attribute_line j (suc n) (suc k) a e =
      let z : j + suc k ≡ suc j + k = omega arith in
      let r = attribute_line (suc j) n k a e in
      (omega (arith, r.0), rw z r.1)

pub sheet_is_tree : SheetIsTree
unfolding node_at
sheet_is_tree s l e =
    let a = (accepts (lit≤ tt) e).1 in
    let tree = tree_of_column (depths s l) (well_formed a) in
    record {
      rows = rows a;
      column = well_formed a;
      tree = tree;
      text = λ i h k.
          let row = tree.row i (omega (arith, rows a)) in
          ap (text_content (node_at s l) i) (sym row.children_are) ∙ row.text_is (node_at s l) k;
      name = λ i h. valid_utf8 _ (a.name i h).utf8;
      value = λ i h. valid_utf8 _ (a.value i h).utf8;
      attributes = λ i h k x q.
          let r = attribute_line s l (counts_from s l 0 i) (row_at s l i).attributes k x q in
          let line = counts_from s l 0 i + k in
          let m : line < l.attributes = omega (arith, r.0, counts_fit s l a i h refl) in
          rw r.1 (valid_utf8 _ (a.attribute_name line m).utf8, valid_utf8 _ (a.attribute_value line m).utf8);
    }
