-- The rows of an accepted sheet hold UTF-8, and so does every entry that `collect` makes of them.
use Rattle.std.specs.Prelude.{Option, None, Some, unwrap_or}
use mathlib.Core.Path.{refl}
use mathlib.Core.Bool.{Bool, true, false, ◌&&◌, ◌||◌, not}
use mathlib.Core.List.{List, [], ◌∷◌}
use Prim.Native.Nat.{ℕ, zero, suc, ◌+◌, ◌≤◌, ◌<◌}
use native.Mathlib.Omega.{arith}
use Rattle.common.specs.Bytes.{Bytes, codes, same, is_empty}
use Rattle.common.proofs.Choice.{by_cond}
use Rattle.options.specs.Options.{is_minimal_html}
use Rattle.options.specs.declared.ExtractOptions.{ExtractOptions}
use Rattle.options.specs.declared.Formatting.{Formatting}
use Rattle.options.specs.declared.Formatting.TheVariants.{Off, Basic, MinimalHtml}
use Rattle.sheet.specs.Accepted.{Accepted}
use Rattle.sheet.specs.Layout.{row_at}
use Rattle.sheet.specs.Verdict.{counts_from}
use Rattle.sheet.specs.declared.line.Layout.{Layout}
use Rattle.sheet.proofs.LayoutLaws.{depths_from_length}
use Rattle.tags.specs.Tags.{is_a, is_textarea, is_image, is_button, is_input}
use Rattle.text.specs.Text.{trim}
use Rattle.tree.specs.Attributes.{name_at, value_at, attributes_from}
use Rattle.tree.specs.Node.{Node, attribute, or_empty, attribute_or_empty}
use Rattle.tree.specs.Page.{node_at, page_of}
use Rattle.tree.proofs.AttributeLines.{counts_fit}
use Rattle.tree.proofs.NodeLaws.{by_kind}
use Rattle.utf8.specs.Abnf.{UTF8_octets, none}
use Rattle.utf8.specs.Valid.{expect, valid}
use Rattle.html2text.specs.Bounds.{Each}
use Rattle.html2text.specs.Collect.{Event, Entry, tag_number, attr, pushes, pushed, is_link, is_break, link_text, is_unshown_type, field_value, missing_alt, alt_text, added_by_element, added, amended, on_last, collect, collect_all}
use Rattle.html2text.specs.Walk.{events, tree_of}
use Rattle.html2text.proofs.EachLaws.{tree_each}
use Rattle.html2text.proofs.EncodedBytes.{octets_valid, octets_append, octets_trim, octets_escape}
use Rattle.html2text.proofs.PageLaws.{page_right}

-- ---- what an event adds

-- what a row shows is UTF-8
pub record Utf8Node (n : Node) : Type 0 where
  pub value : UTF8_octets n.value
  pub attributes : (name : Bytes) → UTF8_octets (attr n name)

link_octets : (f : Formatting) (end : Bool) {href : Bytes} → UTF8_octets href → UTF8_octets (link_text f end href)
unfolding valid expect codes
link_octets Off end p =
    by_cond UTF8_octets end (λ e. octets_append (octets_valid (codes " (") refl) (octets_append (octets_trim p) (octets_valid (codes ")") refl))) (λ e. none)
link_octets Basic end p =
    by_cond UTF8_octets end (λ e. octets_append (octets_valid (codes " (") refl) (octets_append (octets_trim p) (octets_valid (codes ")") refl))) (λ e. none)
link_octets MinimalHtml end p =
    by_cond UTF8_octets end (λ e. octets_valid (codes "</a>") refl)
    (λ e. octets_append (octets_valid (codes "<a href=\"") refl) (octets_append (octets_escape (octets_trim p)) (octets_valid (codes "\">") refl)))

module _ (o : ExtractOptions) (n : Node) (h : Utf8Node n) where
  field_octets : UTF8_octets (field_value n)
  field_octets = by_cond UTF8_octets (is_empty (trim (attr n (codes "value")))) (λ e. h.attributes (codes "placeholder")) (λ e. h.attributes (codes "value"))

  alt_octets : UTF8_octets (alt_text o n)
  unfolding valid expect codes
  alt_octets = go (attribute n.attributes (codes "alt")) (h.attributes (codes "alt"))
    where
      go : (a : Option Bytes) → UTF8_octets (or_empty a) → UTF8_octets (unwrap_or a (missing_alt o.missing_alt))
      go (Some value) q = q
      go None q = by_cond UTF8_octets o.missing_alt (λ _. octets_valid (missing_alt true) refl) (λ _. none)

  element_octets : (end : Bool) → UTF8_octets (added_by_element o n end)
  unfolding added_by_element valid expect codes
  element_octets end =
      let t = tag_number n in
      by_cond UTF8_octets (is_break o t) (λ _. none)
      (λ _. by_cond UTF8_octets (is_link o t) (λ _. link_octets o.formatting end (h.attributes (codes "href")))
      (λ _. by_cond UTF8_octets (o.alt_texts && is_image t) (λ _. alt_octets)
      (λ _. by_cond UTF8_octets (o.form_fields && (is_textarea t || is_button t))
      (λ _. by_cond UTF8_octets end (λ _. octets_valid (codes " ] ") refl) (λ _. octets_valid (codes "[ ") refl))
      (λ _. by_cond UTF8_octets (o.form_fields && (is_input t && not (is_unshown_type (trim (attr n (codes "type"))))))
      (λ _. by_cond UTF8_octets (is_empty (trim (field_value n))) (λ _. none)
      (λ _. octets_append (octets_valid (codes "[ ") refl) (octets_append (octets_trim field_octets) (octets_valid (codes " ] ") refl))))
      (λ _. none)))))

  added_octets : (end : Bool) (current : ℕ) → UTF8_octets (added o n end current)
  unfolding added
  added_octets end current =
      by_kind n.kind (λ e. rw (e, added) (element_octets end))
      (λ e. rw (e, added) (by_cond UTF8_octets (is_minimal_html o.formatting && is_a current) (λ _. octets_escape h.value) (λ _. h.value)))
      (λ e. rw (e, added) none)

-- ---- the rows of a sheet

module _ {s : Bytes} {l : Layout} (accepted : Accepted s l) where
  attribute_octets : (name : Bytes) (j n : ℕ) → j + n ≤ l.attributes → UTF8_octets (attribute_or_empty (attributes_from s l j n) name)
  unfolding attributes_from attribute
  attribute_octets name j zero h = none
  attribute_octets name j (suc n) h = go (same (name_at s l j) name) (attribute_octets name (suc j) n (omega arith))
    where
      go : (b : Bool) → UTF8_octets (attribute_or_empty (attributes_from s l (suc j) n) name)
          → UTF8_octets (unwrap_or (elim b [ true ↦ Some (value_at s l j) | false ↦ attribute (attributes_from s l (suc j) n) name ]) [])
      go true q = octets_valid (value_at s l j) (accepted.attribute_value j (omega arith)).utf8
      go false q = q

  node_octets : (i : ℕ) → i < l.nodes → Utf8Node (node_at s l i)
  unfolding node_at
  node_octets i h =
      record {
        value = octets_valid _ (accepted.value i h).utf8;
        attributes = λ name. attribute_octets name (counts_from s l 0 i) (row_at s l i).attributes (counts_fit s l accepted i h refl);
      }

-- ---- the walk

abbrev pub Utf8Events : List Event → Type 0
Utf8Events = Each (λ e. Utf8Node e.node)

pub page_octets : {s : Bytes} {l : Layout} → Accepted s l → (hidden : ℕ → Bool) → Utf8Events (events (node_at s l) hidden 0 (tree_of (page_of s l)))
page_octets {s} {l} accepted hidden =
    let rows = depths_from_length s l 0 l.nodes in
    tree_each (page_of s l) hidden (λ e. Utf8Node e.node) (λ i h children d end. node_octets accepted i (omega (arith, rows))) (page_right accepted).root

-- ---- the entries

abbrev pub Utf8Entries : List Entry → Type 0
Utf8Entries [] = Unit {0}
Utf8Entries (e ∷ before) = UTF8_octets e.text × Utf8Entries before

module _ (o : ExtractOptions) where
  amended_octets : (e : Event) (es : List Entry) → Utf8Node e.node → Utf8Entries es → Utf8Entries (on_last (amended o e) es)
  amended_octets e [] h p = tt
  amended_octets e (n ∷ before) h p = (octets_append p.0 (added_octets o e.node h e.end n.node.tag), p.1)

  collect_octets : (es : List Entry) (e : Event) → Utf8Node e.node → Utf8Entries es → Utf8Entries (collect o es e)
  unfolding collect
  collect_octets es e h p =
      by_cond (λ (ns : List Entry). Utf8Entries (on_last (amended o e) ns)) (pushes o es e)
      (λ _. amended_octets e (pushed o es e ∷ es) h (none, p)) (λ _. amended_octets e es h p)

  pub collected_octets : (es : List Entry) (events : List Event) → Utf8Events events → Utf8Entries es → Utf8Entries (collect_all o es events)
  unfolding collect_all
  collected_octets es [] h p = p
  collected_octets es (e ∷ events) h p = collected_octets (collect o es e) events h.1 (collect_octets es e h.0 p)
