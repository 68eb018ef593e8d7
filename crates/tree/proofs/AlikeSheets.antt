-- Two sheets that differ in their marks alone show the same rows but for the marks.
use mathlib.Core.Path.{◌≡◌, refl, sym, ap, ap₂, ◌∙◌}
use mathlib.Core.List.{List, ◌∷◌}
use Prim.Native.Nat.{ℕ, zero, suc, ◌+◌, ◌*◌, ◌≤◌, ◌<◌}
use native.Mathlib.Nat.{mul-le-mul_left}
use native.Mathlib.Omega.{arith}
use lib.Dec.{ltb}
use lib.ListN.{take, drop, length-take, length-drop}
use lib.Seq.{get_or-take, get_or-drop, ext_get_or}
use Rattle.common.specs.Bytes.{Bytes}
use Rattle.common.proofs.Choice.{by_test}
use Rattle.sheet.specs.Columns.{field_of}
use Rattle.sheet.specs.Layout.{node_length, node_start, attribute_start, pool_start, row_at, attribute_at, range, depths_from}
use Rattle.sheet.specs.Lines.{number_in, field_at, number_at, row_from, attribute_from}
use Rattle.sheet.specs.Verdict.{counts_from}
use Rattle.sheet.specs.declared.line.Attribute as line
use Rattle.sheet.specs.declared.line.Layout.{Layout}
use Rattle.sheet.specs.declared.line.Row.{Row}
use Rattle.tree.specs.AlikeSheets.{InSkip, AlikeButSkips}
use Rattle.tree.specs.Attributes.{attributes_from}
use Rattle.tree.specs.Page.{kind_of, node_at}
use Rattle.tree.proofs.Order.{trichotomy}

-- ---- what does not lie in a skip column

module _ (l : Layout) where
  -- the line of row i but its third column
  apart : (i k : ℕ) → node_start l i ≤ k → k < node_start l i + node_length l.width → (node_start l i + 2 * l.width ≤ k → k < node_start l i + 3 * l.width → ⊥) → InSkip l k → ⊥
  apart i k low high not_third x =
      let w = l.width in
      trichotomy x.row i
      (λ g. omega (arith, x.from, mul-le-mul_left (8 * w + 1) g))
      (λ e. not_third (rw e at x.from) (rw e at x.to))
      (λ g. omega (arith, x.to, mul-le-mul_left (8 * w + 1) g))

  before_skip : (i k : ℕ) → node_start l i ≤ k → k < node_start l i + 2 * l.width → InSkip l k → ⊥
  before_skip i k low high = apart i k low (omega arith) (λ a b. omega arith)

  behind_skip : (i k : ℕ) → node_start l i + 3 * l.width ≤ k → k < node_start l i + node_length l.width → InSkip l k → ⊥
  behind_skip i k low high = apart i k (omega arith) high (λ a b. omega arith)

  -- the attribute lines and the pool
  behind_nodes : (k : ℕ) → node_start l l.nodes ≤ k → InSkip l k → ⊥
  behind_nodes k low x = omega (arith, x.to, mul-le-mul_left (8 * l.width + 1) x.there)

module _ {s₁ s₂ : Bytes} {l : Layout} (alike : AlikeButSkips s₁ s₂ l) where
  part_same : (at n : ℕ) → ((c : ℕ) → c < n → InSkip l (at + c) → ⊥) → take n (drop at s₂) ≡ take n (drop at s₁)
  part_same at n other =
      ext_get_or 0 (take n (drop at s₂)) (take n (drop at s₁))
      (simp (length-take, length-drop, alike.size))
      (λ c h.
      let inside : c < n = omega (arith, length-take n (drop at s₂)) in
      get_or-take n (drop at s₂) c 0 inside
      ∙ get_or-drop at s₂ c 0
      ∙ alike.same (at + c) (other c inside)
      ∙ sym (get_or-take n (drop at s₁) c 0 inside ∙ get_or-drop at s₁ c 0))

  number_same : (at : ℕ) → ((c : ℕ) → c < l.width → InSkip l (at + c) → ⊥) → number_at l.width s₂ at ≡ number_at l.width s₁ at
  unfolding field_at
  number_same at other = ap (λ (s : Bytes). number_in (field_of s)) (part_same at l.width other)

  -- ---- a row but its mark

  record RowSame (i : ℕ) : Type 0 where
    depth : (row_at s₂ l i).depth ≡ (row_at s₁ l i).depth
    kind : (row_at s₂ l i).kind ≡ (row_at s₁ l i).kind
    name_at : (row_at s₂ l i).name_at ≡ (row_at s₁ l i).name_at
    name_len : (row_at s₂ l i).name_len ≡ (row_at s₁ l i).name_len
    value_at : (row_at s₂ l i).value_at ≡ (row_at s₁ l i).value_at
    value_len : (row_at s₂ l i).value_len ≡ (row_at s₁ l i).value_len
    attributes : (row_at s₂ l i).attributes ≡ (row_at s₁ l i).attributes

  column_same : (i : ℕ) (column : Row → ℕ) → column (row_from l.width s₂ (node_start l i)) ≡ column (row_from l.width s₁ (node_start l i)) → column (row_at s₂ l i) ≡ column (row_at s₁ l i)
  unfolding row_at
  column_same i column e = by_test (ltb i l.nodes) (λ t. rw t e) (λ t. rw t)

  row_same : (i : ℕ) → RowSame i
  row_same i = record {
    depth = column_same i (λ r. r.depth) (number_same _ (λ c h. before_skip l i _ (omega arith) (omega arith)));
    kind = column_same i (λ r. r.kind) (number_same _ (λ c h. before_skip l i _ (omega arith) (omega arith)));
    name_at = column_same i (λ r. r.name_at) (number_same _ (λ c h. behind_skip l i _ (omega arith) (omega arith)));
    name_len = column_same i (λ r. r.name_len) (number_same _ (λ c h. behind_skip l i _ (omega arith) (omega arith)));
    value_at = column_same i (λ r. r.value_at) (number_same _ (λ c h. behind_skip l i _ (omega arith) (omega arith)));
    value_len = column_same i (λ r. r.value_len) (number_same _ (λ c h. behind_skip l i _ (omega arith) (omega arith)));
    attributes = column_same i (λ r. r.attributes) (number_same _ (λ c h. behind_skip l i _ (omega arith) (omega arith)));
  }

  -- ---- attribute lines and ranges

  record AttributeSame (j : ℕ) : Type 0 where
    name_at : (attribute_at s₂ l j).name_at ≡ (attribute_at s₁ l j).name_at
    name_len : (attribute_at s₂ l j).name_len ≡ (attribute_at s₁ l j).name_len
    value_at : (attribute_at s₂ l j).value_at ≡ (attribute_at s₁ l j).value_at
    value_len : (attribute_at s₂ l j).value_len ≡ (attribute_at s₁ l j).value_len

  entry_same : (j : ℕ) (column : line.Attribute → ℕ) → column (attribute_from l.width s₂ (attribute_start l j)) ≡ column (attribute_from l.width s₁ (attribute_start l j))
      → column (attribute_at s₂ l j) ≡ column (attribute_at s₁ l j)
  unfolding attribute_at
  entry_same j column e = by_test (ltb j l.attributes) (λ t. rw t e) (λ t. rw t)

  attribute_same : (j : ℕ) → AttributeSame j
  attribute_same j = record {
    name_at = entry_same j (λ a. a.name_at) (number_same _ (λ c h. behind_nodes l _ (omega arith)));
    name_len = entry_same j (λ a. a.name_len) (number_same _ (λ c h. behind_nodes l _ (omega arith)));
    value_at = entry_same j (λ a. a.value_at) (number_same _ (λ c h. behind_nodes l _ (omega arith)));
    value_len = entry_same j (λ a. a.value_len) (number_same _ (λ c h. behind_nodes l _ (omega arith)));
  }

  range_same : {at₁ at₂ len₁ len₂ : ℕ} → at₂ ≡ at₁ → len₂ ≡ len₁ → range s₂ l at₂ len₂ ≡ range s₁ l at₁ len₁
  range_same {at₁} {at₂} {len₁} {len₂} p q = rw (p, q) (part_same (pool_start l + at₁) len₁ (λ c h. behind_nodes l _ (omega arith)))

  counts_same : (i n : ℕ) → counts_from s₂ l i n ≡ counts_from s₁ l i n
  unfolding counts_from
  counts_same i zero = refl
  counts_same i (suc n) = ap₂ (λ (a b : ℕ). a + b) (row_same i).attributes (counts_same (suc i) n)

  attributes_same : (j n : ℕ) → attributes_from s₂ l j n ≡ attributes_from s₁ l j n
  unfolding attributes_from
  attributes_same j zero = refl
  attributes_same j (suc n) =
      let a = attribute_same j in
      λ i.
      record { name = range_same a.name_at a.name_len i; value = range_same a.value_at a.value_len i } ∷ attributes_same (suc j) n i

  -- ---- pages

  pub node_same : (i : ℕ) → node_at s₂ l i ≡ node_at s₁ l i
  unfolding node_at
  node_same i =
      let r = row_same i in
      let at : attributes_from s₂ l (counts_from s₂ l 0 i) (row_at s₂ l i).attributes ≡ attributes_from s₁ l (counts_from s₁ l 0 i) (row_at s₁ l i).attributes =
      attributes_same (counts_from s₂ l 0 i) (row_at s₂ l i).attributes ∙ ap₂ (attributes_from s₁ l) (counts_same 0 i) r.attributes in
      λ k.
      record {
        kind = kind_of (r.kind k);
        name = range_same r.name_at r.name_len k;
        value = range_same r.value_at r.value_len k;
        attributes = at k;
      }

  pub depths_same : (i n : ℕ) → depths_from s₂ l i n ≡ depths_from s₁ l i n
  unfolding depths_from
  depths_same i zero = refl
  depths_same i (suc n) = ap₂ (λ (x : ℕ) (xs : List ℕ). x ∷ xs) (row_same i).depth (depths_same (suc i) n)
