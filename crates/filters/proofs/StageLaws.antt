-- The stages of `is_main_content` on a row of a sheet.
use Rattle.std.specs.Prelude.{Option, None}
use mathlib.Core.Path.{◌≡◌, refl, sym, ap, ◌∙◌}
use mathlib.Core.Bool.{Bool, true, false, ◌&&◌, ◌||◌, not, cond}
use mathlib.Core.List.{List, [], ◌∷◌}
use Prim.Native.Nat.{ℕ}
use lib.Dec.{leb, eqb, eqb-suc-zero}
use lib.ListN.{get_or, length}
use Rattle.common.specs.Bytes.{Bytes, is_empty}
use Rattle.links.specs.Links.{three_fifths_of800}
use Rattle.links.specs.declared.Rule.{Rule}
use Rattle.options.specs.declared.ExtractOptions.{ExtractOptions}
use Rattle.sheet.specs.Layout.{row_at, range, depths}
use Rattle.sheet.specs.Verdict.{counts_from}
use Rattle.sheet.specs.declared.line.Layout.{Layout}
use Rattle.sheet.specs.declared.line.Row.{Row}
use Rattle.tags.specs.Tags.{tag_of}
use Rattle.tags.specs.Words.{is}
use Rattle.text.specs.Text.{trim}
use Rattle.tree.specs.Attributes.{attributes_from}
use Rattle.tree.specs.Node.{Attribute, tag}
use Rattle.tree.specs.Page.{node_at}
use Rattle.tree.proofs.NodeLaws.{tag_of_element}
use Rattle.tree.proofs.PageLaws.{is_element, name_is, value_is}
use Rattle.tree.specs.declared.attributes.Span.{Span}
use Rattle.filters.specs.Filters.{hidden_by_attribute, not_displayed, by_class_and_id, by_attributes, by_name, is_main_content}
use Rattle.filters.specs.Gathered.{slot_value, Gathered}
use Rattle.filters.specs.Icon.{is_icon}
use Rattle.filters.proofs.RowLaws.{row_text, row_comment}
use Rattle.filters.proofs.ValueLaws.{value_held}

pub is_empty_law : (s : Bytes) → eqb (length s) 0 ≡ is_empty s
is_empty_law [] = refl
is_empty_law (c ∷ s) = eqb-suc-zero (length s)

-- the values in their slots are class, id and style
module _ (o : ExtractOptions) (cluster : Rule → Bool) (depth : ℕ) (name : Bytes) {s : Bytes} {l : Layout} {attributes : List Attribute} {slots : List (Option Span)} (g : Gathered s l attributes slots)
    {class id style : Bytes} (class_is : class ≡ slot_value s l (get_or slots 6 None)) (id_is : id ≡ slot_value s l (get_or slots 7 None)) (style_is : style ≡ slot_value s l (get_or slots 8 None)) where
  pub by_values : {r : Bool}
      → r ≡ cond (hidden_by_attribute attributes) false
      (cond (not_displayed o.hidden_elements class style) false
      (cond (is_empty class && is_empty id) (not (is name "div") || (leb depth 5 || not (cluster three_fifths_of800)))
      (by_class_and_id o cluster depth name attributes class id)))
      → r ≡ by_attributes o cluster depth name attributes
  unfolding by_attributes
  by_values e = e ∙ rw (value_held g.class class_is, value_held g.id id_is, value_held g.style style_is)

module _ (s : Bytes) (l : Layout) (i : ℕ) {r : Row} (r_is : r ≡ row_at s l i) where
  pub tag_named : r.kind ≡ 1 → {t : ℕ} {name : Bytes} → t ≡ tag_of (tag (node_at s l i)) → name ≡ range s l r.name_at r.name_len → t ≡ tag_of name
  tag_named e p q = p ∙ ap tag_of (tag_of_element (node_at s l i) (is_element s l i r_is e) ∙ name_is s l i r_is ∙ sym q)

  attributes_are : {first : ℕ} → first ≡ counts_from s l 0 i → attributes_from s l first r.attributes ≡ (node_at s l i).attributes
  unfolding node_at
  attributes_are e = rw (e, r_is)

  module _ (o : ExtractOptions) (depth : ℕ) where
    pub content_text : r.kind ≡ 3 → {value trimmed : Bytes} {b : Bool} → value ≡ range s l r.value_at r.value_len → trimmed ≡ trim value → b ≡ is_icon o.icons trimmed
        → not b ≡ is_main_content (node_at s l) (depths s l) o i depth
    unfolding is_main_content
    content_text e p q h = rw (row_text s l i r_is e, is_main_content) (ap not (h ∙ ap (is_icon o.icons) (q ∙ ap trim (p ∙ sym (value_is s l i r_is)))))

    pub content_comment : (r.kind ≡ 1 → ⊥) → (r.kind ≡ 3 → ⊥) → true ≡ is_main_content (node_at s l) (depths s l) o i depth
    unfolding is_main_content
    content_comment n m = rw (row_comment s l i r_is n m, is_main_content)

    pub content_element : r.kind ≡ 1 → {name : Bytes} {first : ℕ} {b : Bool} → name ≡ range s l r.name_at r.name_len → first ≡ counts_from s l 0 i
        → b ≡ by_name (node_at s l) (depths s l) o i depth name (attributes_from s l first r.attributes) → b ≡ is_main_content (node_at s l) (depths s l) o i depth
    unfolding is_main_content
    content_element e p f h = rw (is_element s l i r_is e, is_main_content) (h ∙ rw (p, ← name_is s l i r_is, attributes_are f))
