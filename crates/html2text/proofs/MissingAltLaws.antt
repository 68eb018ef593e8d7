-- An absent alt reads as the one that is written in for it, and missing_alt does nothing else.
use Rattle.std.specs.Prelude.{Option, None, Some, unwrap_or}
use mathlib.Core.Path.{◌≡◌, refl, sym, ap, ap₂, ◌∙◌}
use mathlib.Core.Bool.{Bool, true, false, ◌&&◌, ◌||◌, not, cond}
use mathlib.Core.List.{List, [], ◌∷◌, ◌++◌, map, map-append}
use Prim.Native.Nat.{ℕ, zero, suc, ◌+◌}
use lib.ListN.{length}
use Rattle.common.specs.Bytes.{Bytes, codes, same, is_empty}
use Rattle.common.proofs.Choice.{absurd_test, and_parts}
use Rattle.options.specs.Options.{is_minimal_html, with_missing_alt}
use Rattle.options.specs.declared.ExtractOptions.{ExtractOptions}
use Rattle.tags.specs.Tags.{is_cell, is_a, is_textarea, is_image, is_button, is_input}
use Rattle.tags.specs.Words.{is, one_of, words}
use Rattle.tags.proofs.TagLaws.{tag_tests}
use Rattle.text.specs.Text.{trim, escape}
use Rattle.tree.specs.Forest.{Forest, empty, node, has_trees}
use Rattle.tree.specs.Node.{Kind, element, text, comment, Attribute, Node, tag, attribute, is_there, or_empty}
use Rattle.tree.specs.Page.{Page}
use Rattle.tree.proofs.NodeLaws.{tag_of_element, attribute_cons_here, attribute_cons_next}
use Rattle.writer.specs.Out.{greater}
use Rattle.html2text.specs.Collect.{Event, Entry, tag_number, attr, pushes, pushed, is_link, is_break, link_text, is_unshown_type, field_value, missing_alt, alt_text, added_by_element, added, amended, on_last, collect, collect_all}
use Rattle.html2text.specs.Escapes.{escaped_of_element, escaped_of, escaped_last, bytes_escaped, escaped_length}
use Rattle.html2text.specs.Extract.{serialized, taken, longest_text, longest_names, names_length, hidden, entries, passes, work_need, concluded, out_then, work_then, extraction, out_after, work_after}
use Rattle.html2text.specs.MissingAlt.{lacks_alt, with_alt, GiveTheSame, MissingAltRight}
use Rattle.html2text.specs.Pieces.{shown_value, element_pieces, row_pieces, along, pieces}
use Rattle.html2text.specs.Serialize.{one}
use Rattle.html2text.specs.Walk.{left_out, events, visits, tree_of}
use Rattle.html2text.proofs.AlikeLaws.{map_cond}

-- two choices by one test
choose_same : {A : Type 0} (b : Bool) {x y z w : A} → (b ≡ true → x ≡ y) → z ≡ w → cond b x z ≡ cond b y w
choose_same true e q = e refl
choose_same false e q = q

-- two choices by one kind that differ for an element alone
kind_same : {A : Type 0} (k : Kind) {x y : A} (z w : A) → (k ≡ element → x ≡ y)
    → ◌≡◌ {A = A} (elim k [ element ↦ x | text ↦ z | comment ↦ w ]) (elim k [ element ↦ y | text ↦ z | comment ↦ w ])
kind_same element z w e = e refl
kind_same text z w e = refl
kind_same comment z w e = refl

-- a row with other attributes in place of its own
abbrev with_attributes : List Attribute → Node → Node
with_attributes attributes n = record { kind = n.kind; name = n.name; value = n.value; attributes = attributes }

module _ (o : ExtractOptions) (on other : Bool) where
  abbrev first : ExtractOptions
  first = with_missing_alt on o

  abbrev second : ExtractOptions
  second = with_missing_alt other o

  -- ---- a row under the first options, and with other attributes under the second

  -- all but an alt is the same, and where an alt is shown the same is shown
  record AltAlike (n : Node) (attributes : List Attribute) : Type 0 where
    others : (name : Bytes) → same (codes "alt") name ≡ false → attribute n.attributes name ≡ attribute attributes name
    alt : o.alt_texts ≡ true → one_of (tag n) (words "img area") ≡ true → alt_text first n ≡ alt_text second (with_attributes attributes n)

  module _ {n : Node} {attributes : List Attribute} (alike : AltAlike n attributes) where
    abbrev m : Node
    m = with_attributes attributes n

    attr_same : (name : Bytes) → same (codes "alt") name ≡ false → attr n name ≡ attr m name
    attr_same name e = ap or_empty (alike.others name e)

    href_same : attr n (codes "href") ≡ attr m (codes "href")
    unfolding codes same
    href_same = attr_same (codes "href") refl

    type_same : attr n (codes "type") ≡ attr m (codes "type")
    unfolding codes same
    type_same = attr_same (codes "type") refl

    value_same : attr n (codes "value") ≡ attr m (codes "value")
    unfolding codes same
    value_same = attr_same (codes "value") refl

    placeholder_same : attr n (codes "placeholder") ≡ attr m (codes "placeholder")
    unfolding codes same
    placeholder_same = attr_same (codes "placeholder") refl

    field_same : field_value n ≡ field_value m
    field_same = λ k. cond (is_empty (trim (value_same k))) (placeholder_same k) (value_same k)

    shown_same : shown_value n ≡ shown_value m
    shown_same = λ k. cond (is_empty (trim (value_same k))) (trim (placeholder_same k)) (trim (value_same k))

    -- an image by the number of its name, and by the name of an element
    numbered_same : (o.alt_texts && is_image (tag_number n)) ≡ true → alt_text first n ≡ alt_text second m
    numbered_same e =
        let both = and_parts o.alt_texts (is_image (tag_number n)) e in
        alike.alt both.0 (sym (tag_tests (tag n)).image ∙ both.1)

    named_same : n.kind ≡ element → (o.alt_texts && one_of n.name (words "img area")) ≡ true → alt_text first n ≡ alt_text second m
    named_same kind e =
        let both = and_parts o.alt_texts (one_of n.name (words "img area")) e in
        alike.alt both.0 (ap (λ (s : Bytes). one_of s (words "img area")) (tag_of_element n kind) ∙ both.1)

    -- ---- what it adds to an entry

    element_same : (end : Bool) → added_by_element first n end ≡ added_by_element second m end
    unfolding added_by_element tag
    element_same end =
        let t = tag_number n in
        ap₂ (λ (href rest : Bytes). cond (is_break o t) [] (cond (is_link o t) (link_text o.formatting end href) rest)) href_same
        (choose_same (o.alt_texts && is_image t) numbered_same
        (λ k.
        cond (o.form_fields && (is_textarea t || is_button t)) (cond end (codes " ] ") (codes "[ "))
        (cond (o.form_fields && (is_input t && not (is_unshown_type (trim (type_same k)))))
        (cond (is_empty (trim (field_same k))) [] (codes "[ " ++ (trim (field_same k) ++ codes " ] ")))
        [])))

    added_same : (end : Bool) (current : ℕ) → added first n end current ≡ added second m end current
    unfolding added
    added_same end current =
        kind_same n.kind (cond (is_minimal_html o.formatting && is_a current) (escape n.value) n.value) [] (λ e. element_same end)

    -- ---- what of it is escaped

    escaped_element_same : (escape end : Bool) → escaped_of_element first escape n end ≡ escaped_of_element second escape m end
    unfolding escaped_of_element tag
    escaped_element_same escape end =
        let t = tag_number n in
        let written = is_minimal_html o.formatting && not end in
        ap₂ (λ (href rest : Bytes). cond (is_break o t) [] (cond (is_link o t) (cond written (trim href) []) rest)) href_same
        (choose_same (o.alt_texts && is_image t) (λ e. ap (λ (s : Bytes). cond escape s []) (numbered_same e))
        (λ k.
        cond (o.form_fields && (is_textarea t || is_button t)) []
        (cond (o.form_fields && (is_input t && not (is_unshown_type (trim (type_same k))))) (cond escape (trim (field_same k)) []) [])))

    escaped_same : (escape end : Bool) (current : ℕ) → escaped_of first escape n end current ≡ escaped_of second escape m end current
    unfolding escaped_of
    escaped_same escape end current =
        let inside = escape || (is_minimal_html o.formatting && is_a current) in
        kind_same n.kind (cond inside n.value []) [] (λ e. escaped_element_same escape end)

    -- ---- its pieces

    element_pieces_same : n.kind ≡ element → (end : Bool) → element_pieces first n end ≡ element_pieces second m end
    unfolding element_pieces
    element_pieces_same e end =
        ap₂ (λ (href : Bytes) (rest : List Bytes).
        cond (o.links && is n.name "a") (cond end ((codes "(" ++ (trim href ++ codes ")")) ∷ []) []) rest) href_same
        (choose_same (o.alt_texts && one_of n.name (words "img area")) (λ h. ap (λ (s : Bytes). s ∷ []) (named_same e h))
        (λ k.
        cond (o.form_fields && one_of n.name (words "textarea button")) (cond end (codes "]") (codes "[") ∷ [])
        (cond (o.form_fields && (is n.name "input" && not (is_unshown_type (trim (type_same k)))))
        (cond (is_empty (shown_same k)) [] ((codes "[" ++ (shown_same k ++ codes "]")) ∷ []))
        [])))

    row_pieces_same : (end : Bool) → row_pieces first n end ≡ row_pieces second m end
    unfolding row_pieces
    row_pieces_same end = kind_same n.kind (n.value ∷ []) [] (λ e. element_pieces_same e end)

    names_same : names_length n ≡ names_length m
    unfolding names_length codes same
    names_same = kind_same n.kind 0 0 (λ e k. length (attr_same (codes "class") refl k) + 1 + length (attr_same (codes "id") refl k))

  -- ---- a page whose rows are all so

  module _ (attributes : Node → List Attribute) (alike : (n : Node) → AltAlike n (attributes n)) where
    abbrev changed : Node → Node
    changed n = with_attributes (attributes n) n

    abbrev changed_event : Event → Event
    changed_event e = record { row = e.row; node = changed e.node; children = e.children; depth = e.depth; end = e.end }

    -- ---- entries

    last_same : (e : Event) (nodes : List Entry) → on_last (amended first e) nodes ≡ on_last (amended second (changed_event e)) nodes
    unfolding tag
    last_same e [] = refl
    last_same e (n ∷ before) =
        ap (λ (s : Bytes). record { row = n.row; node = (amended first e n).node; text = n.text ++ s } ∷ before)
        (added_same (alike e.node) e.end n.node.tag)

    collect_same : (nodes : List Entry) (e : Event) → collect first nodes e ≡ collect second nodes (changed_event e)
    unfolding collect tag
    collect_same [] e = last_same e (pushed first [] e ∷ [])
    collect_same (n ∷ before) e =
        let nodes = n ∷ before in
        last_same e (cond (pushes first nodes e) (pushed first nodes e ∷ nodes) nodes)

    collect_all_same : (nodes : List Entry) (es : List Event) → collect_all first nodes es ≡ collect_all second nodes (map changed_event es)
    unfolding collect_all
    collect_all_same nodes [] = refl
    collect_all_same nodes (e ∷ es) =
        collect_all_same (collect first nodes e) es
        ∙ ap (λ (ns : List Entry). collect_all second ns (map changed_event es)) (collect_same nodes e)

    escaped_last_same : (nodes : List Entry) (e : Event) → escaped_last first nodes e ≡ escaped_last second nodes (changed_event e)
    escaped_last_same [] e = refl
    escaped_last_same (n ∷ before) e =
        ap (λ (s : Bytes). cond (is_cell n.node.tag && n.node.end) [] s)
        (escaped_same (alike e.node) n.node.escape e.end n.node.tag)

    bytes_same : (nodes : List Entry) (es : List Event) → bytes_escaped first nodes es ≡ bytes_escaped second nodes (map changed_event es)
    unfolding bytes_escaped
    bytes_same nodes [] = refl
    bytes_same nodes (e ∷ es) =
        let next = collect first nodes e in
        let E = map changed_event es in
        ap₂ (λ (s : Bytes) (k : ℕ). length s + k) (escaped_last_same next e) (bytes_same next es)
        ∙ ap (λ (ns : List Entry). length (escaped_last second ns (changed_event e)) + bytes_escaped second ns E) (collect_same nodes e)

    serialized_same : (es : List Entry) → serialized first es ≡ serialized second es
    unfolding serialized
    serialized_same [] = refl
    serialized_same (e ∷ es) = ap (taken o.formatting o.list_bullets e) (serialized_same es)

    -- ---- trees

    module _ (node_of : ℕ → Node) (hide : ℕ → Bool) where
      abbrev changed_of : ℕ → Node
      changed_of i = changed (node_of i)

      events_same : (d : ℕ) (f : Forest ℕ) → map changed_event (events node_of hide d f) ≡ events changed_of hide d f
      unfolding events
      events_same d empty = refl
      events_same d (node i children rest) = simp (map-append, map_cond, events_same (suc d) children, events_same d rest)

      visits_same : (f : Forest ℕ) → visits node_of hide f ≡ visits changed_of hide f
      unfolding visits
      visits_same empty = refl
      visits_same (node i children rest) = λ k.
          cond (left_out node_of hide i) 1 (1 + one (has_trees children) + visits_same children k) + visits_same rest k

      pieces_same : (up : List ℕ) (f : Forest ℕ) → pieces node_of hide first up f ≡ pieces changed_of hide second up f
      unfolding pieces
      pieces_same up empty = refl
      pieces_same up (node i children rest) =
          let own = row_pieces_same (alike (node_of i)) in
          λ k.
          cond (left_out node_of hide i) []
          (along (i ∷ up) (own false k)
          ++ (pieces_same (i ∷ up) children k ++ cond (has_trees children) (along (i ∷ up) (own true k)) []))
          ++ pieces_same up rest k

      longest_same : (k : ℕ) → longest_names node_of k ≡ longest_names changed_of k
      unfolding longest_names
      longest_same zero = refl
      longest_same (suc k) = ap₂ greater (longest_same k) (names_same (alike (node_of k)))

    -- ---- the page

    module _ (filtered : ℕ → Bool) (p : Page) where
      abbrev q : Page
      q = record { depths = p.depths; node = λ i. changed (p.node i); marked = p.marked; root = p.root }

      abbrev hide : ℕ → Bool
      hide = hidden filtered p o

      abbrev walked : List Event
      walked = events p.node hide 0 (tree_of p)

      walked_same : map changed_event walked ≡ events q.node hide 0 (tree_of q)
      walked_same = events_same p.node hide 0 (tree_of p)

      entries_same : entries filtered p first ≡ entries filtered q second
      entries_same = collect_all_same [] walked ∙ ap (collect_all second []) walked_same

      passes_same : passes filtered p first ≡ passes filtered q second
      passes_same = visits_same p.node hide (tree_of p)

      need_same : work_need filtered p first ≡ work_need filtered q second
      need_same =
          ap₂ (λ (es : List Entry) (names : ℕ). greater (longest_text es) (cond o.main_content names 0)) entries_same
          (longest_same p.node hide (length p.depths))

      run_same : serialized first (entries filtered p first) ≡ serialized second (entries filtered q second)
      run_same = serialized_same (entries filtered p first) ∙ ap (serialized second) entries_same

      give_the_same : GiveTheSame filtered p first filtered q second
      unfolding extraction out_after work_after escaped_length
      give_the_same = record {
        answer = λ out work k. concluded (need_same k) (passes_same k) (run_same k) out work;
        out = λ out work k. out_then (need_same k) (passes_same k) (run_same k) out work;
        work = λ work k. work_then (need_same k) (passes_same k) (run_same k) work;
        pieces = pieces_same p.node hide [] (tree_of p);
        count = bytes_same [] walked ∙ ap (bytes_escaped second []) walked_same;
      }

  -- ---- an alt that is written in

  module _ (n : Node) where
    abbrev written : Attribute
    written = record { name = codes "alt"; value = missing_alt on }

    other_names : (b : Bool) (name : Bytes) → same (codes "alt") name ≡ false
        → attribute n.attributes name ≡ attribute (cond b (written ∷ n.attributes) n.attributes) name
    other_names true name e = sym (attribute_cons_next written n.attributes name e)
    other_names false name e = refl

    -- of an img or area, by whether an alt is there
    alt_same : (a : Option Bytes) → attribute n.attributes (codes "alt") ≡ a
        → unwrap_or a (missing_alt on)
        ≡ unwrap_or (attribute (cond (not (is_there a)) (written ∷ n.attributes) n.attributes) (codes "alt")) (missing_alt other)
    unfolding codes same
    alt_same None e =
        ap (λ (b : Option Bytes). unwrap_or b (missing_alt other)) (sym (attribute_cons_here written n.attributes (codes "alt") refl))
    alt_same (Some value) e = ap (λ (b : Option Bytes). unwrap_or b (missing_alt other)) (sym e)

    written_alike : AltAlike n (with_alt (missing_alt on) n).attributes
    written_alike = record {
      others = other_names (lacks_alt n);
      alt = λ _ image. rw image (alt_same (attribute n.attributes (codes "alt")) refl);
    }

    -- with alt_texts off none is shown
    unshown_alike : o.alt_texts ≡ false → AltAlike n n.attributes
    unshown_alike off = record { others = λ name e. refl; alt = λ shown. absurd_test shown off }

pub missing_alt_right : MissingAltRight
missing_alt_right = record {
  off = λ o n e. ap (λ (b : Bool). unwrap_or (attribute n.attributes (codes "alt")) (missing_alt b)) e;
  written = λ filtered p o on other.
      give_the_same o on other (λ n. (with_alt (missing_alt on) n).attributes) (written_alike o on other) filtered p;
  without = λ filtered p o on other off.
      give_the_same o on other (λ n. n.attributes) (λ n. unshown_alike o on other n off) filtered p;
}
