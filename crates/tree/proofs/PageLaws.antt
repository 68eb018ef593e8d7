-- What a row of a sheet says, by the numbers that are read of it.
use mathlib.Core.Path.{◌≡◌, refl, sym, ap, ◌∙◌}
use mathlib.Core.List.{[]}
use Prim.Native.Nat.{ℕ, ◌+◌, ◌≤◌, ◌<◌}
use native.Mathlib.Omega.{arith}
use lib.Dec.{eqb}
use lib.ListN.{length, length-take}
use borrow.Author.Tests.{eq-eqb, ne_eqb, eqb-true, eqb-false}
use Rattle.common.specs.Bytes.{Bytes}
use Rattle.common.proofs.Choice.{by_test}
use Rattle.sheet.specs.Accepted.{Accepted}
use Rattle.sheet.specs.Layout.{row_at, range}
use Rattle.sheet.specs.declared.line.Layout.{Layout}
use Rattle.sheet.specs.declared.line.Row.{Row}
use Rattle.tree.specs.Node.{Kind, element, text, comment}
use Rattle.tree.specs.Page.{kind_of, node_at}
use Rattle.tree.specs.TextContent.{text_data}
use Rattle.tree.proofs.TextLaws.{data_of_text, data_of_other}

element_not_text : element ≡ text → ⊥
element_not_text e = let z : ◌≡◌ {A = ℕ} 0 1 = cc in omega arith

comment_not_element : comment ≡ element → ⊥
comment_not_element e = let z : ◌≡◌ {A = ℕ} 0 1 = cc in omega arith

comment_not_text : comment ≡ text → ⊥
comment_not_text e = let z : ◌≡◌ {A = ℕ} 0 1 = cc in omega arith

module _ (k : ℕ) where
  pub kind_element : k ≡ 1 → kind_of k ≡ element
  unfolding kind_of
  kind_element e = rw (eq-eqb k 1 e)

  pub kind_text : k ≡ 3 → kind_of k ≡ text
  unfolding kind_of
  kind_text e = rw (ne_eqb k 1 (omega arith), eq-eqb k 3 e)

  kind_not_element : (k ≡ 1 → ⊥) → kind_of k ≡ element → ⊥
  unfolding kind_of
  kind_not_element n =
      by_test (eqb k 3)
      (λ t. rw (ne_eqb k 1 n, t) (λ e. element_not_text (sym e)))
      (λ t. rw (ne_eqb k 1 n, t) comment_not_element)

  kind_not_text : (k ≡ 3 → ⊥) → kind_of k ≡ text → ⊥
  unfolding kind_of
  kind_not_text n =
      by_test (eqb k 1)
      (λ t. rw t element_not_text)
      (λ t. rw (t, ne_eqb k 3 n) comment_not_text)

module _ (s : Bytes) (l : Layout) {r : Row} (i : ℕ) (r_is : r ≡ row_at s l i) where
  pub row_kind : (node_at s l i).kind ≡ kind_of r.kind
  unfolding node_at
  row_kind = rw r_is

  pub is_element : r.kind ≡ 1 → (node_at s l i).kind ≡ element
  is_element e = row_kind ∙ kind_element r.kind e

  pub not_element : (r.kind ≡ 1 → ⊥) → (node_at s l i).kind ≡ element → ⊥
  not_element n e = kind_not_element r.kind n (sym row_kind ∙ e)

  pub name_is : (node_at s l i).name ≡ range s l r.name_at r.name_len
  unfolding node_at
  name_is = rw r_is

  pub value_is : (node_at s l i).value ≡ range s l r.value_at r.value_len
  unfolding node_at
  value_is = rw r_is

  -- a text's data is its value, and another row has none
  pub data_is : r.kind ≡ 3 → text_data (node_at s l i) ≡ range s l r.value_at r.value_len
  data_is e = data_of_text (node_at s l i) (row_kind ∙ kind_text r.kind e) ∙ value_is

  pub data_none : (r.kind ≡ 3 → ⊥) → text_data (node_at s l i) ≡ []
  data_none n = data_of_other (node_at s l i) (λ e. kind_not_text r.kind n (sym row_kind ∙ e))

  pub value_fits : Accepted s l → i < l.nodes → r.value_at + r.value_len ≤ l.pool
  value_fits a h = rw r_is (a.value i h).inside

  pub name_fits : Accepted s l → i < l.nodes → r.name_at + r.name_len ≤ l.pool
  name_fits a h = rw r_is (a.name i h).inside

-- a row shows at most the pool
module _ {s : Bytes} {l : Layout} (a : Accepted s l) (i : ℕ) (h : i < l.nodes) where
  pub value_small : length (node_at s l i).value ≤ l.pool
  value_small = rw (value_is s l i refl) (simp length-take (omega (arith, (a.value i h).inside)))

  pub data_small : length (text_data (node_at s l i)) ≤ l.pool
  data_small =
      by_test (eqb (row_at s l i).kind 3)
      (λ t. rw (data_is s l i refl (eqb-true (row_at s l i).kind 3 t), ← value_is s l i refl) value_small)
      (λ t. rw (data_none s l i refl (eqb-false (row_at s l i).kind 3 t)) (omega arith))
