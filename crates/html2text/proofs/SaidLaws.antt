-- What an event adds to the current entry with formatting Off is the row's pieces, up to blanks.
use mathlib.Core.Path.{◌≡◌, refl, sym, ap, ap₂, ◌∙◌}
use mathlib.Core.Bool.{Bool, true, false, ◌&&◌, ◌||◌, not, cond, and-false}
use mathlib.Core.List.{List, [], ◌∷◌, ◌++◌, append-nil}
use Prim.Native.Nat.{ℕ}
use borrow.Author.Tests.{eqb-true}
use Rattle.common.specs.Bytes.{Bytes, codes, same, is_empty}
use Rattle.common.proofs.Choice.{by_test, absurd_test, and_parts}
use Rattle.options.specs.declared.ExtractOptions.{ExtractOptions}
use Rattle.tags.specs.Tags.{tag_of, is_cell, is_a, is_textarea, is_image, is_button, is_input}
use Rattle.tags.specs.Words.{words, first_word, other_words, is, one_of}
use Rattle.tags.proofs.TagLaws.{tag_tests}
use Rattle.text.specs.Text.{is_space, is_ascii_whitespace, trim, struck_by, struck}
use Rattle.text.proofs.StruckLaws.{struck_append}
use Rattle.tree.specs.Node.{Kind, element, text, comment, Attribute, Node, tag}
use Rattle.html2text.specs.Collect.{attr, is_link, is_unshown_type, field_value, alt_text, added_by_element, added}
use Rattle.html2text.specs.Demand.{is_cell_node, is_text, is_blank_text}
use Rattle.html2text.specs.Pieces.{shown_value, element_pieces, row_pieces}
use Rattle.html2text.proofs.OffLaws.{off}

unfoldable pub struck_all : List Bytes → Bytes
struck_all [] = []
struck_all (b ∷ bs) = struck b ++ struck_all bs

-- the pieces of a row, at its beginning or at its end, blanks struck out
abbrev pub said : ExtractOptions → Node → Bool → Bytes
said o n end = struck_all (row_pieces o n end)

-- the bytes s are the pieces u, up to blanks
record Says (s : Bytes) (u : List Bytes) : Type 0 where
  eq : struck s ≡ struck_all u

says_one : (s : Bytes) → Says s (s ∷ [])
unfolding struck_all
says_one s = record { eq = sym (append-nil (struck s)) }

says_none : Says [] []
unfolding struck_all struck_by
says_none = record { eq = refl }

choose : (a b : Bool) {s t : Bytes} {u v : List Bytes} → a ≡ b → Says s u → Says t v → Says (cond a s t) (cond b u v)
choose true true e p q = p
choose false false e p q = q
choose true false e p q = absurd_test refl e
choose false true e p q = absurd_test e refl

link_said : (end : Bool) (h : Bytes) → Says (cond end (codes " (" ++ (h ++ codes ")")) []) (cond end ((codes "(" ++ (h ++ codes ")")) ∷ []) [])
unfolding struck_all struck_by codes is_space is_ascii_whitespace
link_said true h = record { eq = sym (append-nil _) }
link_said false h = says_none

bracket_said : (end : Bool) → Says (cond end (codes " ] ") (codes "[ ")) (cond end (codes "]") (codes "[") ∷ [])
unfolding struck_all struck_by codes is_space is_ascii_whitespace
bracket_said true = record { eq = refl }
bracket_said false = record { eq = refl }

value_said : (v : Bytes) → Says (codes "[ " ++ (v ++ codes " ] ")) ((codes "[" ++ (v ++ codes "]")) ∷ [])
unfolding struck_all struck_by codes is_space is_ascii_whitespace
value_said v =
    record { eq = ap (λ (u : Bytes). 91 ∷ u) (struck_append is_space v (32 ∷ 93 ∷ 32 ∷ []) ∙ sym (struck_append is_space v (93 ∷ []))) ∙ sym (append-nil _) }

trim_choice : (b : Bool) (s t : Bytes) → trim (cond b s t) ≡ cond b (trim s) (trim t)
trim_choice true s t = refl
trim_choice false s t = refl

field_said : (n : Node)
    → Says (cond (is_empty (trim (field_value n))) [] (codes "[ " ++ (trim (field_value n) ++ codes " ] "))) (cond (is_empty (shown_value n)) [] ((codes "[" ++ (shown_value n ++ codes "]")) ∷ []))
field_said n =
    rw (trim_choice (is_empty (trim (attr n (codes "value")))) (attr n (codes "placeholder")) (attr n (codes "value")))
    (choose (is_empty (shown_value n)) (is_empty (shown_value n)) refl says_none (value_said (shown_value n)))

-- ---- an element, by the number of its name

two_words : (s v w : Bytes) → one_of s (v ∷ w ∷ []) ≡ (same s v || same s w)
unfolding one_of
two_words s v w = by_test (same s v) (λ e. rw (e, one_of)) (λ e. rw (e, one_of) (by_test (same s w) (λ q. rw q) (λ q. rw q)))

pub bracketed : (name : Bytes) → (is_textarea (tag_of name) || is_button (tag_of name)) ≡ one_of name (words "textarea button")
unfolding words codes first_word other_words
bracketed name =
    let t = tag_tests name in
    ap₂ (λ (a b : Bool). a || b) t.textarea t.button ∙ sym (two_words name (codes "textarea") (codes "button"))

and_same : (a : Bool) {b c : Bool} → b ≡ c → (a && b) ≡ (a && c)
and_same a e = ap (λ (x : Bool). a && x) e

module _ (name value : Bytes) (attributes : List Attribute) where
  abbrev as_element : Node
  as_element = record { kind = element; name = name; value = value; attributes = attributes }

  element_said : (o : ExtractOptions) (end : Bool) → Says (added_by_element (off o) as_element end) (element_pieces o as_element end)
  unfolding added_by_element element_pieces tag
  element_said o end =
      let t = tag_tests name in
      let shown = not (is_unshown_type (trim (attr as_element (codes "type")))) in
      choose (is_link (off o) (tag_of name)) (o.links && is name "a") (and_same o.links t.a) (link_said end (trim (attr as_element (codes "href"))))
      (choose (o.alt_texts && is_image (tag_of name)) (o.alt_texts && one_of name (words "img area")) (and_same o.alt_texts t.image)
      (says_one (alt_text o as_element))
      (choose (o.form_fields && (is_textarea (tag_of name) || is_button (tag_of name))) (o.form_fields && one_of name (words "textarea button")) (and_same o.form_fields (bracketed name)) (bracket_said end)
      (choose (o.form_fields && (is_input (tag_of name) && shown)) (o.form_fields && (is name "input" && shown)) (and_same o.form_fields (ap (λ (b : Bool). b && shown) t.input)) (field_said as_element)
      says_none)))

  -- a cell has no piece
  cell_element : (o : ExtractOptions) (end : Bool) → is_cell (tag_of name) ≡ true → struck_all (element_pieces o as_element end) ≡ []
  unfolding element_pieces struck_all
  cell_element o end h =
      let t = tag_tests name in
      let two : tag_of name ≡ 2 = eqb-true (tag_of name) 2 h in
      let no_link : is name "a" ≡ false = sym t.a ∙ ap is_a two in
      let no_image : one_of name (words "img area") ≡ false = sym t.image ∙ ap is_image two in
      let no_bracket : one_of name (words "textarea button") ≡ false = sym (bracketed name) ∙ ap (λ (k : ℕ). is_textarea k || is_button k) two in
      let no_input : is name "input" ≡ false = sym t.input ∙ ap is_input two in
      simp (no_link, no_image, no_bracket, no_input, and-false)

-- ---- any row

said_of : (k : Kind) (name value : Bytes) (attributes : List Attribute) (o : ExtractOptions) (end : Bool) (current : ℕ)
    → Says (added (off o) (record { kind = k; name = name; value = value; attributes = attributes }) end current) (row_pieces o (record { kind = k; name = name; value = value; attributes = attributes }) end)
unfolding added row_pieces
said_of element name value attributes o end current = element_said name value attributes o end
said_of text name value attributes o end current = says_one value
said_of comment name value attributes o end current = says_none

pub added_said : (o : ExtractOptions) (n : Node) (end : Bool) (current : ℕ) → struck (added (off o) n end current) ≡ said o n end
added_said o n end current = (said_of n.kind n.name n.value n.attributes o end current).eq

pub cell_tag : (n : Node) → is_cell (tag_of (tag n)) ≡ is_cell_node n
cell_tag n = (tag_tests (tag n)).cell

cell_of : (k : Kind) (name value : Bytes) (attributes : List Attribute) (o : ExtractOptions) (end : Bool)
    → is_cell_node (record { kind = k; name = name; value = value; attributes = attributes }) ≡ true → said o (record { kind = k; name = name; value = value; attributes = attributes }) end ≡ []
unfolding row_pieces tag one_of words codes same first_word other_words
cell_of element name value attributes o end h = cell_element name value attributes o end ((tag_tests name).cell ∙ h)
cell_of text name value attributes o end h = absurd_test h refl
cell_of comment name value attributes o end h = absurd_test h refl

pub cell_said : (o : ExtractOptions) (n : Node) (end : Bool) → is_cell_node n ≡ true → said o n end ≡ []
cell_said o n end h = cell_of n.kind n.name n.value n.attributes o end h

pub empty_nil : (s : Bytes) → is_empty s ≡ true → s ≡ []
empty_nil [] h = refl
empty_nil (c ∷ s) h = absurd_test h refl

-- blank text has no other byte
blank_of : (k : Kind) (name value : Bytes) (attributes : List Attribute) (o : ExtractOptions) (end : Bool) → (is_text k && is_empty (struck value)) ≡ true
    → said o (record { kind = k; name = name; value = value; attributes = attributes }) end ≡ []
unfolding row_pieces struck_all
blank_of text name value attributes o end h = rw (empty_nil (struck value) h)
blank_of element name value attributes o end h = absurd_test h refl
blank_of comment name value attributes o end h = absurd_test h refl

pub blank_said : (o : ExtractOptions) (n : Node) (end : Bool) → is_blank_text n ≡ true → said o n end ≡ []
blank_said o n end h = blank_of n.kind n.name n.value n.attributes o end h

-- a blank text is no element
pub blank_no_element : (n : Node) → is_blank_text n ≡ true → n.kind ≡ element → ⊥
blank_no_element n h e = absurd_test (and_parts (is_text n.kind) (is_empty (struck n.value)) h).0 (ap is_text e)
