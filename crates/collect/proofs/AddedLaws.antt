-- What a visit adds, by the tests that choose it.
use mathlib.Core.Logic.{◌⊎◌, inl, inr}
use mathlib.Core.Path.{◌≡◌, refl, sym, ap, ◌∙◌}
use mathlib.Core.Bool.{Bool, true, false, ◌&&◌, ◌||◌, not, cond, and-false}
use mathlib.Core.List.{[], ◌∷◌, ◌++◌}
use Prim.Native.Nat.{ℕ, ◌+◌, ◌≤◌, ◌<◌}
use native.Mathlib.Omega.{arith}
use lib.Dec.{eqb}
use lib.ListN.{length, take, drop}
use borrow.Author.Tests.{eqb-true, eqb-false}
use Rattle.common.specs.Bytes.{Bytes, codes, same, is_empty}
use Rattle.common.proofs.Choice.{by_test, and_parts}
use Rattle.options.specs.Options.{is_basic, is_minimal_html}
use Rattle.options.specs.declared.ExtractOptions.{ExtractOptions}
use Rattle.options.specs.declared.Formatting.{Formatting}
use Rattle.options.specs.declared.Formatting.TheVariants.{Off, Basic, MinimalHtml}
use Rattle.sheet.specs.Layout.{pool_start, row_at, range}
use Rattle.sheet.specs.declared.line.Layout.{Layout}
use Rattle.tags.specs.Tags.{tag_names, tag_of, is_a, is_textarea, is_image, is_button, is_input}
use Rattle.tags.specs.Words.{words, first_word, other_words, number_from}
use Rattle.text.specs.Text.{trim, escape}
use Rattle.tree.specs.Node.{Kind, element, text, comment, Node}
use Rattle.tree.specs.Page.{node_at}
use Rattle.tree.proofs.NodeLaws.{by_kind, tag_of_other}
use Rattle.tree.proofs.PageLaws.{not_element}
use Rattle.writer.specs.Shown.{escaped_if}
use Rattle.serializer.specs.Progress.{read_of}
use Rattle.html2text.specs.declared.Showing.{Showing}
use Rattle.html2text.specs.Collect.{tag_number, attr, is_break, is_link, link_text, is_unshown_type, field_value, alt_text, added_by_element, added}
use Rattle.collect.specs.Reads.{element_read, read_by}
use Rattle.collect.specs.Visits.{Visits, field_text, input_text}
use Rattle.collect.specs.declared.Visit.{Visit}
use Rattle.collect.proofs.ReadLaws.{read_empty, read_other, read_of_element, read_of_text}
use Rattle.collect.proofs.TestLaws.{and_less, early_a, early_textarea, early_image, early_button, early_input}

-- ---- an empty text

pub empty_of : (s : Bytes) → length s ≡ 0 → is_empty s ≡ true
empty_of [] e = refl
empty_of (c ∷ s) e = absurd (omega arith)

pub empty_not : (s : Bytes) → (length s ≡ 0 → ⊥) → is_empty s ≡ false
empty_not [] n = absurd (n refl)
empty_not (c ∷ s) n = refl

-- ---- a link, whose address trims to h

module _ {f : Formatting} (end : Bool) {h : Bytes} (href : Bytes) (h_is : h ≡ trim href) where
  pub link_plain : (f ≡ Off) ⊎ (f ≡ Basic) → link_text f end href ≡ cond end (codes " (" ++ (h ++ codes ")")) []
  link_plain (inl e) = rw (e, h_is)
  link_plain (inr e) = rw (e, h_is)

  pub link_html : f ≡ MinimalHtml → link_text f end href ≡ cond end (codes "</a>") (codes "<a href=\"" ++ (escape h ++ codes "\">"))
  link_html e = rw (e, h_is)

-- ---- an input, whose value is `value`; t is a text trimmed

module _ (n : Node) where
  pub field_placeholder : {value t other : Bytes} → length t ≡ 0 → t ≡ trim value → value ≡ attr n (codes "value") → other ≡ attr n (codes "placeholder") → other ≡ field_value n
  field_placeholder {value} {t} z t_is v_is o_is = rw (← v_is, ← t_is, empty_of t z) o_is

  pub field_own : {value t : Bytes} → (length t ≡ 0 → ⊥) → t ≡ trim value → value ≡ attr n (codes "value") → value ≡ field_value n
  field_own {value} {t} z t_is v_is = rw (← v_is, ← t_is, empty_not t z)

  pub field_none : {value t : Bytes} → length t ≡ 0 → t ≡ trim value → value ≡ field_value n → field_text n ≡ []
  field_none {value} {t} z t_is v_is = rw (← v_is, ← t_is, empty_of t z)

  pub field_some : {value t : Bytes} → (length t ≡ 0 → ⊥) → t ≡ trim value → value ≡ field_value n → field_text n ≡ codes "[ " ++ (t ++ codes " ] ")
  field_some {value} {t} z t_is v_is = rw (← v_is, ← t_is, empty_not t z)

-- ---- an element, by its tag t

cond_not : (b : Bool) (x y : Bytes) → cond (not b) x y ≡ cond b y x
cond_not true x y = refl
cond_not false x y = refl

module _ (o : ExtractOptions) (n : Node) (end : Bool) {t : ℕ} (t_is : t ≡ tag_number n) where
  pub element_break : is_break o t ≡ true → added_by_element o n end ≡ []
  unfolding added_by_element
  element_break e = rw (← t_is, e, added_by_element)

  module _ (b : is_break o t ≡ false) where
    pub element_link : is_link o t ≡ true → added_by_element o n end ≡ link_text o.formatting end (attr n (codes "href"))
    unfolding added_by_element
    element_link e = rw (← t_is, b, e, added_by_element)

    module _ (l : is_link o t ≡ false) where
      pub element_alt : (o.alt_texts && is_image t) ≡ true → added_by_element o n end ≡ alt_text o n
      unfolding added_by_element
      element_alt e = rw (← t_is, b, l, e, added_by_element)

      module _ (i : (o.alt_texts && is_image t) ≡ false) where
        pub element_brackets : (o.form_fields && (is_textarea t || is_button t)) ≡ true → added_by_element o n end ≡ cond end (codes " ] ") (codes "[ ")
        unfolding added_by_element
        element_brackets e = rw (← t_is, b, l, i, e, added_by_element)

        module _ (k : (o.form_fields && (is_textarea t || is_button t)) ≡ false) where
          pub element_input : (o.form_fields && is_input t) ≡ true → added_by_element o n end ≡ input_text n
          unfolding added_by_element
          element_input e =
              let p = and_parts o.form_fields (is_input t) e in
              rw (← t_is, b, l, i, k, p.0, p.1, added_by_element) (cond_not (is_unshown_type (trim (attr n (codes "type")))) (field_text n) [])

          pub element_none : (o.form_fields && is_input t) ≡ false → added_by_element o n end ≡ []
          unfolding added_by_element
          element_none e = rw (← t_is, b, l, i, k, and_less o.form_fields (is_input t) (not (is_unshown_type (trim (attr n (codes "type"))))) e, added_by_element)

  -- a name before those that add something
  pub element_early : t < 37 → added_by_element o n end ≡ []
  element_early h =
      by_test (is_break o t) element_break
      (λ b. element_none b (rw (early_a h) (and-false o.links)) (rw (early_image h) (and-false o.alt_texts)) (rw (early_textarea h, early_button h) (and-false o.form_fields))
      (rw (early_input h) (and-false o.form_fields)))

  -- none of the tags
  pub element_other : t ≡ 0 → added_by_element o n end ≡ []
  element_other z =
      element_none (rw z (and-false (is_basic o.formatting))) (rw z (and-false o.links)) (rw z (and-false o.alt_texts)) (rw z (and-false o.form_fields))
      (rw z (and-false o.form_fields))

-- ---- a row

escape_nothing : (b : Bool) → escaped_if b [] ≡ []
unfolding escape
escape_nothing true = refl
escape_nothing false = refl

module _ (o : ExtractOptions) (n : Node) (end : Bool) (current : ℕ) where
  shown_by : Kind → Bytes
  shown_by k =
      elim k [
        | element ↦ added_by_element o n end
        | text ↦ cond (is_minimal_html o.formatting && is_a current) (escape n.value) n.value
        | comment ↦ []
      ]

  added_of_element : n.kind ≡ element → added o n end current ≡ added_by_element o n end
  unfolding added shown_by
  added_of_element e = ap shown_by e

  added_of_text : n.kind ≡ text → added o n end current ≡ cond (is_minimal_html o.formatting && is_a current) (escape n.value) n.value
  unfolding added shown_by
  added_of_text e = ap shown_by e

text_no_element : text ≡ element → ⊥
text_no_element e = let z : ◌≡◌ {A = ℕ} 0 1 = cc in omega arith

other_tag : (n : Node) → (n.kind ≡ element → ⊥) → tag_number n ≡ 0
unfolding tag_of tag_names number_from words first_word other_words codes same
other_tag n e = ap tag_of (tag_of_other n e)

module _ {s : Bytes} {l : Layout} {v : Visit} (p : Visits s l v) where
  abbrev visited : Node
  visited = node_at s l v.row

  pub value_inside : v.value_at + v.value_len ≤ l.pool
  value_inside = rw (p.value_at, p.value_len) (p.accepted.value v.row p.inside).inside

  value_is : range s l v.value_at v.value_len ≡ visited.value
  unfolding node_at
  value_is = rw (p.value_at, p.value_len)

  value_is' : visited.value ≡ range s l (row_at s l v.row).value_at (row_at s l v.row).value_len
  unfolding node_at
  value_is' = refl

  -- an element has no value
  no_value : visited.kind ≡ element → visited.value ≡ []
  no_value e =
      let r = row_at s l v.row in
      by_test (eqb r.kind 1)
      (λ k. value_is' ∙ ap (λ (n : ℕ). take n (drop (pool_start l + r.value_at) s)) ((p.accepted.kind v.row p.inside).element (eqb-true r.kind 1 k)))
      (λ k. absurd (not_element s l v.row refl (eqb-false r.kind 1 k) e))

  pub added_value : {text : Bytes} {escapes : Bool} (o : ExtractOptions) (current : ℕ) → v.tag ≡ 0 → text ≡ range s l v.value_at v.value_len
      → escapes ≡ (is_minimal_html o.formatting && is_a current) → added o visited v.end current ≡ escaped_if escapes text
  added_value {text} {escapes} o current z t_is e_is =
      let text_is = t_is ∙ value_is in
      by_kind visited.kind
      (λ k.
      added_of_element o visited v.end current k
      ∙ element_other o visited v.end p.tag_is z
      ∙ sym (escape_nothing escapes)
      ∙ ap (escaped_if escapes) (sym (text_is ∙ no_value k)))
      (λ k. added_of_text o visited v.end current k ∙ rw (text_is, e_is))
      (λ k. absurd (p.shown k))

  pub read_value : {text : Bytes} {escapes : Bool} (o : ExtractOptions) (w : Showing) (current : ℕ) → v.tag ≡ 0 → text ≡ range s l v.value_at v.value_len
      → escapes ≡ (is_minimal_html o.formatting && is_a current) → read_by o w visited v.end current ≡ read_of w escapes text
  read_value {text} {escapes} o w current z t_is e_is =
      let text_is = t_is ∙ value_is in
      by_kind visited.kind
      (λ k.
      read_of_element o w visited v.end current k
      ∙ read_other o w visited v.end p.tag_is z
      ∙ sym (read_empty w escapes text (ap length (text_is ∙ no_value k))))
      (λ k. read_of_text o w visited v.end current k e_is ∙ rw text_is)
      (λ k. absurd (p.shown k))

  pub read_no_value : (o : ExtractOptions) (w : Showing) (current : ℕ) → v.tag ≡ 0 → v.value_len ≡ 0 → read_by o w visited v.end current ≡ 0
  read_no_value o w current z n =
      read_value {text = []} o w current z (ap (λ (k : ℕ). take k (drop (pool_start l + v.value_at) s)) (sym n)) refl ∙ read_empty w (is_minimal_html o.formatting && is_a current) [] refl

  pub read_element : (o : ExtractOptions) (w : Showing) (current : ℕ) → (v.tag ≡ 0 → ⊥) → read_by o w visited v.end current ≡ element_read o w visited v.end
  read_element o w current z =
      by_kind visited.kind
      (λ k. read_of_element o w visited v.end current k)
      (λ k. absurd (z (p.tag_is ∙ other_tag visited (λ e. text_no_element (sym k ∙ e)))))
      (λ k. absurd (p.shown k))

  pub added_none : (o : ExtractOptions) (current : ℕ) → v.tag ≡ 0 → v.value_len ≡ 0 → added o visited v.end current ≡ []
  added_none o current z n =
      added_value {text = []} o current z (ap (λ (k : ℕ). take k (drop (pool_start l + v.value_at) s)) (sym n)) refl ∙ escape_nothing (is_minimal_html o.formatting && is_a current)

  pub added_element : (o : ExtractOptions) (current : ℕ) → (v.tag ≡ 0 → ⊥) → added o visited v.end current ≡ added_by_element o visited v.end
  added_element o current z =
      by_kind visited.kind
      (λ k. added_of_element o visited v.end current k)
      (λ k. absurd (z (p.tag_is ∙ other_tag visited (λ e. text_no_element (sym k ∙ e)))))
      (λ k. absurd (p.shown k))
