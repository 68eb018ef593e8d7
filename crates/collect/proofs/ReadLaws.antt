-- How many bytes are read of what a visit adds, by the tests that choose it.
use mathlib.Core.Logic.{◌⊎◌, inl, inr}
use mathlib.Core.Path.{◌≡◌, refl, ap, ◌∙◌}
use mathlib.Core.Bool.{Bool, true, false, ◌&&◌, ◌||◌, not, cond, or-true, or-false, and-false}
use mathlib.Core.List.{[]}
use Prim.Native.Nat.{ℕ, ◌<◌}
use native.Mathlib.Omega.{arith}
use lib.ListN.{length}
use Rattle.common.specs.Bytes.{Bytes, codes}
use Rattle.common.proofs.Choice.{by_test, and_parts}
use Rattle.options.specs.Options.{is_minimal_html}
use Rattle.options.specs.declared.ExtractOptions.{ExtractOptions}
use Rattle.options.specs.declared.Formatting.{Formatting}
use Rattle.options.specs.declared.Formatting.TheVariants.{Off, Basic, MinimalHtml}
use Rattle.serializer.specs.Progress.{read_of}
use Rattle.tags.specs.Tags.{is_a, is_textarea, is_image, is_button, is_input}
use Rattle.text.specs.Text.{trim}
use Rattle.tree.specs.Node.{element, text, Node}
use Rattle.html2text.specs.Collect.{tag_number, attr, is_break, is_link, is_unshown_type, field_value, alt_text}
use Rattle.html2text.specs.Escapes.{escaped_of, escaped_of_element}
use Rattle.html2text.specs.Showing.{showing_after}
use Rattle.html2text.specs.declared.Showing.{Showing}
use Rattle.collect.specs.Reads.{link_read, field_read, input_read, element_read, read_by}
use Rattle.collect.proofs.TestLaws.{and_less, early_a, early_textarea, early_image, early_button, early_input}

-- ---- what is read does not hang on what was shown before

read_after : (w : Showing) (piece : Bytes) (escaped : Bool) (s : Bytes) → read_of (showing_after w piece) escaped s ≡ read_of w escaped s
unfolding showing_after
read_after w piece escaped s = by_test w.dropped (λ e. rw e) (λ e. rw e)

pub read_behind : {w : Showing} (v : Showing) (piece : Bytes) (escaped : Bool) (s : Bytes) → w ≡ showing_after v piece → read_of w escaped s ≡ read_of v escaped s
read_behind v piece escaped s e = ap (λ (x : Showing). read_of x escaped s) e ∙ read_after v piece escaped s

-- ---- a text that is escaped with its entry, or always

length_if : (dropped shown : Bool) (s : Bytes) → length (cond dropped [] (cond shown s [])) ≡ cond dropped 0 (cond shown (length s) 0)
length_if true shown s = refl
length_if false true s = refl
length_if false false s = refl

pub read_with : (w : Showing) (s : Bytes) → length (cond w.dropped [] (cond w.escapes s [])) ≡ read_of w false s
read_with w s = length_if w.dropped w.escapes s ∙ rw (or-false w.escapes)

pub read_always : (w : Showing) (s : Bytes) → length (cond w.dropped [] s) ≡ read_of w true s
read_always w s = length_if w.dropped true s ∙ rw (or-true w.escapes)

none_read : (b : Bool) → length {A = ℕ} (cond b [] []) ≡ 0
none_read true = refl
none_read false = refl

pub read_empty : (w : Showing) (escaped : Bool) (s : Bytes) → length s ≡ 0 → read_of w escaped s ≡ 0
read_empty w escaped s e = rw e (go w.dropped (w.escapes || escaped))
  where
    go : (a b : Bool) → ◌≡◌ {A = ℕ} (cond a 0 (cond b 0 0)) 0
    go true b = refl
    go false true = refl
    go false false = refl

-- ---- a link, whose address trims to h

module _ {f : Formatting} (end : Bool) (w : Showing) {h : Bytes} (href : Bytes) (h_is : h ≡ trim href) where
  pub link_read_plain : (f ≡ Off) ⊎ (f ≡ Basic) → link_read f end w href ≡ 0
  link_read_plain (inl e) = rw e
  link_read_plain (inr e) = rw e

  pub link_read_html : f ≡ MinimalHtml → link_read f end w href ≡ cond end 0 (read_of w true h)
  link_read_html e = rw (e, h_is)

-- ---- an element, by its tag t

module _ (o : ExtractOptions) (w : Showing) (n : Node) (end : Bool) {t : ℕ} (t_is : t ≡ tag_number n) where
  pub read_break : is_break o t ≡ true → element_read o w n end ≡ 0
  unfolding escaped_of_element
  read_break e = rw (← t_is, e, escaped_of_element) (none_read w.dropped)

  module _ (b : is_break o t ≡ false) where
    pub read_link : is_link o t ≡ true → element_read o w n end ≡ link_read o.formatting end w (attr n (codes "href"))
    unfolding escaped_of_element
    read_link e = rw (← t_is, b, e, escaped_of_element) (go o.formatting end)
      where
        go : (f : Formatting) (d : Bool) → length (cond w.dropped [] (cond (is_minimal_html f && not d) (trim (attr n (codes "href"))) [])) ≡ link_read f d w (attr n (codes "href"))
        go Off d = none_read w.dropped
        go Basic d = none_read w.dropped
        go MinimalHtml true = none_read w.dropped
        go MinimalHtml false = read_always w (trim (attr n (codes "href")))

    module _ (l : is_link o t ≡ false) where
      pub read_alt : (o.alt_texts && is_image t) ≡ true → element_read o w n end ≡ read_of w false (alt_text o n)
      unfolding escaped_of_element
      read_alt e = rw (← t_is, b, l, e, escaped_of_element) (read_with w (alt_text o n))

      module _ (i : (o.alt_texts && is_image t) ≡ false) where
        pub read_brackets : (o.form_fields && (is_textarea t || is_button t)) ≡ true → element_read o w n end ≡ 0
        unfolding escaped_of_element
        read_brackets e = rw (← t_is, b, l, i, e, escaped_of_element) (none_read w.dropped)

        module _ (k : (o.form_fields && (is_textarea t || is_button t)) ≡ false) where
          pub read_input : (o.form_fields && is_input t) ≡ true → element_read o w n end ≡ input_read w n
          unfolding escaped_of_element
          read_input e =
              let p = and_parts o.form_fields (is_input t) e in
              rw (← t_is, b, l, i, k, p.0, p.1, escaped_of_element) (go (is_unshown_type (trim (attr n (codes "type")))))
            where
              go : (u : Bool) → length (cond w.dropped [] (cond (not u) (cond w.escapes (trim (field_value n)) []) [])) ≡ cond u 0 (field_read w n)
              go true = none_read w.dropped
              go false = read_with w (trim (field_value n))

          pub read_none : (o.form_fields && is_input t) ≡ false → element_read o w n end ≡ 0
          unfolding escaped_of_element
          read_none e =
              rw (← t_is, b, l, i, k, and_less o.form_fields (is_input t) (not (is_unshown_type (trim (attr n (codes "type"))))) e, escaped_of_element) (none_read w.dropped)

  -- a name before those that add something
  pub read_early : t < 37 → element_read o w n end ≡ 0
  read_early h =
      by_test (is_break o t) read_break
      (λ b. read_none b (rw (early_a h) (and-false o.links)) (rw (early_image h) (and-false o.alt_texts)) (rw (early_textarea h, early_button h) (and-false o.form_fields))
      (rw (early_input h) (and-false o.form_fields)))

  pub read_other : t ≡ 0 → element_read o w n end ≡ 0
  read_other z = read_early (omega (arith, z))

-- ---- a row

module _ (o : ExtractOptions) (w : Showing) (n : Node) (end : Bool) (current : ℕ) where
  pub read_of_element : n.kind ≡ element → read_by o w n end current ≡ element_read o w n end
  unfolding escaped_of
  read_of_element e = rw e

  pub read_of_text : n.kind ≡ text → {escaped : Bool} → escaped ≡ (is_minimal_html o.formatting && is_a current) → read_by o w n end current ≡ read_of w escaped n.value
  unfolding escaped_of
  read_of_text e h = rw (e, h) (length_if w.dropped (w.escapes || (is_minimal_html o.formatting && is_a current)) n.value)
