-- The walk of an accepted sheet's page has at most two events a row, each of a row of the sheet, and each adds at most six times the pool and
-- a few bytes.
use Rattle.std.specs.Prelude.{Option, None, Some, unwrap_or}
use mathlib.Core.Path.{◌≡◌, refl}
use mathlib.Core.Bool.{Bool, true, false, ◌&&◌, ◌||◌, not, cond}
use mathlib.Core.List.{List, [], ◌∷◌, ◌++◌}
use Prim.Native.Nat.{ℕ, zero, suc, ◌+◌, ◌*◌, ◌≤◌, ◌<◌}
use native.Mathlib.Omega.{arith}
use lib.ListN.{length, take, drop, length-append, length-take, length-drop}
use Rattle.common.specs.Bytes.{Bytes, codes, same, is_empty}
use Rattle.common.proofs.Choice.{by_cond}
use Rattle.options.specs.Options.{is_minimal_html}
use Rattle.options.specs.declared.ExtractOptions.{ExtractOptions}
use Rattle.options.specs.declared.Formatting.{Formatting}
use Rattle.options.specs.declared.Formatting.TheVariants.{Off, Basic, MinimalHtml}
use Rattle.sheet.specs.Accepted.{Accepted}
use Rattle.sheet.specs.Layout.{pool_start, row_at, attribute_at, range}
use Rattle.sheet.specs.Notes.{Sized}
use Rattle.sheet.specs.Verdict.{counts_from}
use Rattle.sheet.specs.declared.line.Layout.{Layout}
use Rattle.sheet.proofs.LayoutLaws.{depths_from_length}
use Rattle.tags.specs.Tags.{is_a, is_textarea, is_image, is_button, is_input}
use Rattle.text.specs.Text.{is_space, trim, escape}
use Rattle.text.proofs.EscapeLaws.{escape_length}
use Rattle.text.proofs.TrimLaws.{trim_length}
use Rattle.tree.specs.Attributes.{name_at, value_at, attributes_from}
use Rattle.tree.specs.Forest.{Forest, empty, node, has_trees}
use Rattle.tree.specs.Node.{Node, attribute, or_empty, attribute_or_empty}
use Rattle.tree.specs.Page.{node_at, page_of}
use Rattle.tree.proofs.NodeLaws.{by_kind}
use Rattle.html2text.specs.Bounds.{Each, AddsAtMost, EventsBounded, added_in}
use Rattle.html2text.specs.Collect.{Event, tag_number, attr, is_link, is_break, link_text, is_unshown_type, field_value, missing_alt, alt_text, added_by_element, added}
use Rattle.html2text.specs.Serialize.{one}
use Rattle.html2text.specs.Walk.{left_out, event_at, events, visits, tree_of}
use Rattle.html2text.proofs.EachLaws.{tree_each}
use Rattle.html2text.proofs.PageLaws.{page_right}
use Rattle.html2text.proofs.WalkLaws.{walk_of_tree}

-- ---- what an event adds, where no value is longer than p

pub record Short (p : ℕ) (n : Node) : Type 0 where
  pub value : length n.value ≤ p
  pub attributes : (name : Bytes) → length (attr n name) ≤ p

module _ {p : ℕ} (o : ExtractOptions) (n : Node) (short : Short p n) where
  Fits : Bytes → Type 0
  Fits s = length s ≤ 6 * p + 11

  link_fits : (f : Formatting) (end : Bool) (href : Bytes) → length href ≤ p → Fits (link_text f end href)
  unfolding Fits codes
  link_fits Off end href h = by_cond Fits end (λ e. omega (arith, trim_length is_space href, length-append (trim href) (codes ")"))) (λ e. omega arith)
  link_fits Basic end href h = by_cond Fits end (λ e. omega (arith, trim_length is_space href, length-append (trim href) (codes ")"))) (λ e. omega arith)
  link_fits MinimalHtml end href h =
      by_cond Fits end (λ e. omega arith) (λ e. omega (arith, trim_length is_space href, escape_length (trim href), length-append (escape (trim href)) (codes "\">")))

  field_fits : length (field_value n) ≤ p
  field_fits =
      by_cond (λ (s : Bytes). length s ≤ p) (is_empty (trim (attr n (codes "value")))) (λ e. short.attributes (codes "placeholder")) (λ e. short.attributes (codes "value"))

  alt_fits : Fits (alt_text o n)
  unfolding Fits codes
  alt_fits = go (attribute n.attributes (codes "alt")) (short.attributes (codes "alt"))
    where
      go : (a : Option Bytes) → length (or_empty a) ≤ p → length (unwrap_or a (missing_alt o.missing_alt)) ≤ 6 * p + 11
      go (Some value) h = omega arith
      go None h = by_cond (λ (s : Bytes). length s ≤ 6 * p + 11) o.missing_alt (λ e. omega arith) (λ e. omega arith)

  element_fits : (end : Bool) → Fits (added_by_element o n end)
  unfolding Fits added_by_element codes
  element_fits end =
      let t = tag_number n in
      by_cond Fits (is_break o t) (λ e. omega arith)
      (λ e. by_cond Fits (is_link o t) (λ _. link_fits o.formatting end (attr n (codes "href")) (short.attributes (codes "href")))
      (λ _. by_cond Fits (o.alt_texts && is_image t) (λ _. alt_fits)
      (λ _. by_cond Fits (o.form_fields && (is_textarea t || is_button t)) (λ _. by_cond Fits end (λ _. omega arith) (λ _. omega arith))
      (λ _. by_cond Fits (o.form_fields && (is_input t && not (is_unshown_type (trim (attr n (codes "type"))))))
      (λ _. by_cond Fits (is_empty (trim (field_value n))) (λ _. omega arith) (λ _. omega (arith, field_fits, trim_length is_space (field_value n), length-append (trim (field_value n)) (codes " ] "))))
      (λ _. omega arith)))))

  added_fits : (end : Bool) (current : ℕ) → Fits (added o n end current)
  unfolding Fits added
  added_fits end current =
      by_kind n.kind (λ e. rw (e, added) (element_fits end))
      (λ e. rw (e, added) (by_cond Fits (is_minimal_html o.formatting && is_a current) (λ _. omega (arith, short.value, escape_length n.value)) (λ _. omega (arith, short.value))))
      (λ e. rw (e, added) (omega arith))

-- ---- the rows of a sheet: every value is a range of the pool

part_short : (s : Bytes) (start pool at len : ℕ) → length s ≡ start + pool → length (take len (drop (start + at) s)) ≤ pool
part_short s start pool at len h = omega (arith, length-take len (drop (start + at) s), length-drop (start + at) s)

module _ {s : Bytes} {l : Layout} (sized : Sized s l) where
  range_short : (at len : ℕ) → length (range s l at len) ≤ l.pool
  range_short at len = part_short s (pool_start l) l.pool at len sized.size

  attribute_short : (name : Bytes) (j n : ℕ) → length (attribute_or_empty (attributes_from s l j n) name) ≤ l.pool
  unfolding attributes_from attribute
  attribute_short name j zero = omega arith
  attribute_short name j (suc n) = go (same (name_at s l j) name) (attribute_short name (suc j) n)
    where
      go : (b : Bool) → length (attribute_or_empty (attributes_from s l (suc j) n) name) ≤ l.pool
          → length (unwrap_or (elim b [ true ↦ Some (value_at s l j) | false ↦ attribute (attributes_from s l (suc j) n) name ]) []) ≤ l.pool
      go true h = range_short (attribute_at s l j).value_at (attribute_at s l j).value_len
      go false h = h

  pub node_short : (i : ℕ) → Short l.pool (node_at s l i)
  unfolding node_at
  node_short i =
      record {
        value = range_short (row_at s l i).value_at (row_at s l i).value_len;
        attributes = λ name. attribute_short name (counts_from s l 0 i) (row_at s l i).attributes;
      }

  node_adds : (o : ExtractOptions) (i : ℕ) (end : Bool) (current : ℕ) → length (added o (node_at s l i) end current) ≤ added_in l
  unfolding Fits
  node_adds o i end current = added_fits o (node_at s l i) (node_short i) end current

-- ---- the walk

-- a row's events, those below it and those behind it, beside its passes
row_few : (left children : Bool) (begin end : Event) (below rest : List Event) (v w : ℕ) → length below ≤ v → length rest ≤ w
    → length (cond left [] (begin ∷ (below ++ cond children (end ∷ []) [])) ++ rest) ≤ cond left 1 (1 + one children + v) + w
row_few true children begin end below rest v w h k = omega arith
row_few false true begin end below rest v w h k = omega (arith, length-append (below ++ end ∷ []) rest, length-append below (end ∷ []))
row_few false false begin end below rest v w h k = omega (arith, length-append (below ++ []) rest, length-append below [])

module _ (node_of : ℕ → Node) (hidden : ℕ → Bool) where
  events_few : (d : ℕ) (f : Forest ℕ) → length (events node_of hidden d f) ≤ visits node_of hidden f
  unfolding events visits
  events_few d empty = omega arith
  events_few d (node i children rest) =
      row_few (left_out node_of hidden i) (has_trees children) (event_at node_of hidden i (has_trees children) d false) (event_at node_of hidden i true d true) (events node_of hidden (suc d) children) (events node_of hidden d rest)
      (visits node_of hidden children) (visits node_of hidden rest) (events_few (suc d) children) (events_few d rest)

module _ {s : Bytes} {l : Layout} (accepted : Accepted s l) (hidden : ℕ → Bool) where
  pub events_in : (P : Event → Type 0) → ((i : ℕ) (children : Bool) (d : ℕ) (end : Bool) → i < l.nodes → P (event_at (node_at s l) hidden i children d end))
      → Each P (events (node_at s l) hidden 0 (tree_of (page_of s l)))
  events_in P p =
      tree_each (page_of s l) hidden P (λ i h children d end. p i children d end (omega (arith, depths_from_length s l 0 l.nodes))) (page_right accepted).root

  pub visits_most : (o : ExtractOptions) → visits (node_at s l) hidden (tree_of (page_of s l)) ≤ 2 * l.nodes
  visits_most o = omega (arith, (walk_of_tree (page_of s l) (λ i d. hidden i) hidden o (λ i d e. refl) (page_right accepted)).most, depths_from_length s l 0 l.nodes)

  pub events_most : (o : ExtractOptions) → length (events (node_at s l) hidden 0 (tree_of (page_of s l))) ≤ 2 * l.nodes
  events_most o = omega (arith, events_few (node_at s l) hidden 0 (tree_of (page_of s l)), visits_most o)

  pub events_add : (o : ExtractOptions) {most : ℕ} → added_in l ≤ most → Each (AddsAtMost most o) (events (node_at s l) hidden 0 (tree_of (page_of s l)))
  events_add o {most} h =
      events_in (AddsAtMost most o) (λ i children d end k. record { short = λ current. omega (arith, node_adds accepted.sized o i end current) })

  pub events_bounded : (o : ExtractOptions) → EventsBounded s l hidden o
  events_bounded o =
      record { few = omega (arith, events_most o, accepted.sized.nodes); each = events_add o (omega (arith, accepted.sized.pool)) }
