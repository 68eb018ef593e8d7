-- How many bytes of texts an extraction escapes: along a fused run as along `collect`, no more than what the events add, and by whether the
-- open entry is dropped and escaped.
use mathlib.Core.Path.{◌≡◌, refl, sym, ap, ◌∙◌}
use mathlib.Core.Bool.{Bool, true, false, ◌&&◌, ◌||◌, not, cond}
use mathlib.Core.List.{List, [], ◌∷◌, ◌++◌}
use Prim.Native.Nat.{ℕ, ◌+◌, ◌*◌, ◌≤◌}
use native.Mathlib.Omega.{arith}
use lib.ListN.{length, length-append}
use Rattle.common.specs.Bytes.{Bytes, codes, is_empty}
use Rattle.common.proofs.Choice.{by_cond, by_test}
use Rattle.options.specs.Options.{is_minimal_html}
use Rattle.options.specs.declared.ExtractOptions.{ExtractOptions}
use Rattle.options.specs.declared.Formatting.{Formatting}
use Rattle.options.specs.declared.Formatting.TheVariants.{Off, Basic, MinimalHtml}
use Rattle.tags.specs.Tags.{is_cell, is_a, is_textarea, is_image, is_button, is_input}
use Rattle.text.specs.Text.{trim, escape}
use Rattle.text.proofs.EscapeLaws.{escape_length}
use Rattle.tree.specs.Node.{Node}
use Rattle.tree.proofs.NodeLaws.{by_kind}
use Rattle.html2text.specs.Bounds.{most_added, AddsAtMost, EachAdds}
use Rattle.html2text.specs.Collect.{Event, Entry, tag_number, attr, pushes, pushed, is_link, is_break, link_text, is_unshown_type, field_value, added_by_element, added, amended, on_last, collect}
use Rattle.html2text.specs.Escapes.{escaped_of_element, escaped_of, escaped_by, escaped_last, bytes_escaped, fed_escaped}
use Rattle.html2text.specs.Fused.{Fused, idle, pushes_on, fed}
use Rattle.html2text.specs.Serialize.{State}
use Rattle.html2text.specs.Showing.{showing_after, showing_of, begun}
use Rattle.html2text.specs.declared.ExtractNode.{ExtractNode}
use Rattle.html2text.proofs.FusionLaws.{view, fused_one}
use Rattle.html2text.proofs.ShowingLaws.{fed_in_two}

-- ---- along a fused run

module _ (o : ExtractOptions) where
  -- there is a last entry behind an event
  last_view : (nodes : List Entry) (e : Event) → escaped_by o (view o (collect o nodes e)).node e ≡ escaped_last o (collect o nodes e) e
  unfolding view collect
  last_view [] e = refl
  last_view (n ∷ before) e = go (pushes o (n ∷ before) e)
    where
      gone : Bool → List Entry
      gone b = on_last (amended o e) (cond b (pushed o (n ∷ before) e ∷ n ∷ before) (n ∷ before))

      go : (b : Bool) → escaped_by o (view o (gone b)).node e ≡ escaped_last o (gone b) e
      go true = refl
      go false = refl

  escaped_view : (nodes : List Entry) (es : List Event) → fed_escaped o es (view o nodes) ≡ bytes_escaped o nodes es
  unfolding fed_escaped bytes_escaped
  escaped_view nodes [] = refl
  escaped_view nodes (e ∷ es) =
      let next = collect o nodes e in
      ap (λ (G : Fused). length (escaped_by o G.node e) + fed_escaped o es G) (sym (fused_one o nodes e))
      ∙ (λ i. length (last_view nodes e i) + escaped_view next es i)

  pub escaped_fused : (es : List Event) → fed_escaped o es idle ≡ bytes_escaped o [] es
  unfolding view
  escaped_fused es = escaped_view [] es

-- ---- no more than what is added

record Shorter (s t : Bytes) : Type 0 where
  le : length s ≤ length t

none : {t : Bytes} → Shorter [] t
none = record { le = omega arith }

whole : {t : Bytes} → Shorter t t
whole = record { le = omega arith }

choose : (b : Bool) {s t u v : Bytes} → Shorter s u → Shorter t v → Shorter (cond b s t) (cond b u v)
choose true h k = h
choose false h k = k

perhaps : (b : Bool) {s t : Bytes} → Shorter s t → Shorter (cond b s []) t
perhaps true h = h
perhaps false h = none

link_short : (f : Formatting) (end : Bool) (href : Bytes) → Shorter (cond (is_minimal_html f && not end) (trim href) []) (link_text f end href)
unfolding codes
link_short Off end href = none
link_short Basic end href = none
link_short MinimalHtml true href = none
link_short MinimalHtml false href =
    record { le = omega (arith, escape_length (trim href), length-append (escape (trim href)) (codes "\">")) }

field_short : (v : Bytes) → Shorter v (cond (is_empty v) [] (codes "[ " ++ (v ++ codes " ] ")))
unfolding codes
field_short [] = none
field_short (c ∷ s) = record { le = omega (arith, length-append s (codes " ] ")) }

text_short : (escaped link : Bool) (s : Bytes) → Shorter (cond (escaped || link) s []) (cond link (escape s) s)
text_short escaped true s = perhaps (escaped || true) (record { le = (escape_length s).0 })
text_short escaped false s = perhaps (escaped || false) whole

module _ (o : ExtractOptions) (escape : Bool) (n : Node) (end : Bool) where
  element_short : Shorter (escaped_of_element o escape n end) (added_by_element o n end)
  unfolding escaped_of_element added_by_element
  element_short =
      let t = tag_number n in
      choose (is_break o t) none
      (choose (is_link o t) (link_short o.formatting end (attr n (codes "href")))
      (choose (o.alt_texts && is_image t) (perhaps escape whole)
      (choose (o.form_fields && (is_textarea t || is_button t)) none
      (choose (o.form_fields && (is_input t && not (is_unshown_type (trim (attr n (codes "type"))))))
      (perhaps escape (field_short (trim (field_value n))))
      none))))

  pub escaped_short : (current : ℕ) → length (escaped_of o escape n end current) ≤ length (added o n end current)
  unfolding escaped_of added
  escaped_short current =
      by_kind n.kind (λ e. rw (e, escaped_of, added) element_short.le)
      (λ e. rw (e, escaped_of, added) (text_short escape (is_minimal_html o.formatting && is_a current) n.value).le)
      (λ e. rw (e, escaped_of, added) (omega arith))

pub escaped_by_short : {o : ExtractOptions} {e : Event} (n : ExtractNode) → AddsAtMost most_added o e → length (escaped_by o n e) ≤ most_added
escaped_by_short {o} {e} n h =
    by_cond (λ (s : Bytes). length s ≤ most_added) (is_cell n.tag && n.end) (λ _. omega arith)
    (λ _. omega (arith, escaped_short o n.escape e.node e.end n.tag, h.short n.tag))

pub escaped_bounded : (o : ExtractOptions) (es : List Event) (F : Fused) → EachAdds o es → fed_escaped o es F ≤ length es * most_added
unfolding fed_escaped
escaped_bounded o [] F each = omega arith
escaped_bounded o (e ∷ es) F each =
    omega (arith, escaped_by_short {o = o} {e = e} (fed o e F).node each.0, escaped_bounded o es (fed o e F) each.1)

-- ---- the open entry

module _ (f : Formatting) (bullets : Bool) (n : ExtractNode) (S : State) (text : Bytes) where
  pub showing_dropped : (showing_after (showing_of f bullets n S) text).dropped ≡ (is_cell n.tag && n.end)
  unfolding showing_after showing_of
  showing_dropped = by_test (is_cell n.tag && n.end) (λ e. rw e) (λ e. rw e)

  pub showing_escapes : (is_cell n.tag && n.end) ≡ false → (showing_after (showing_of f bullets n S) text).escapes ≡ n.escape
  unfolding showing_after showing_of
  showing_escapes e = rw e

pub fed_node : (o : ExtractOptions) (e : Event) (F : Fused) → (fed o e F).node ≡ (cond (pushes_on o F e) (begun o e F) F).node
fed_node o e F =
    by_test (pushes_on o F e) (λ p. rw ((fed_in_two o e F).opens p, p)) (λ p. rw ((fed_in_two o e F).grows p, p))
