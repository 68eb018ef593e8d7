-- `is_main_content` reads kinds, names, values and the attributes of twelve names: an alt is not among them, so that one that is written in
-- filters no row out, and none in.
use Rattle.std.specs.Prelude.{Option, None, Some}
use mathlib.Core.Path.{◌≡◌, refl, sym, ap, ◌∙◌}
use mathlib.Core.Bool.{Bool, true, false, not, cond}
use mathlib.Core.List.{List, [], ◌∷◌, ◌++◌}
use Prim.Native.Nat.{ℕ, zero, suc, ◌+◌, ◌-◌}
use lib.ListN.{length, get_or}
use Rattle.common.specs.Bytes.{Bytes, codes, same}
use Rattle.common.proofs.Choice.{by_test, absurd_test}
use Rattle.common.proofs.Equality.{same_true}
use Rattle.links.specs.Links.{is_link, links_among, measure_of, exceeds, link_cluster}
use Rattle.links.specs.declared.Rule.{Rule}
use Rattle.options.specs.Options.{with_missing_alt}
use Rattle.options.specs.declared.ExtractOptions.{ExtractOptions}
use Rattle.sheet.specs.Column.{parent_of}
use Rattle.tags.specs.Words.{words, first_word, other_words, one_of}
use Rattle.text.specs.Text.{trim, collapse}
use Rattle.tree.specs.Forest.{preorder}
use Rattle.tree.specs.Node.{element, text, comment, Attribute, Node, attribute}
use Rattle.tree.specs.Page.{Page}
use Rattle.tree.specs.Rows.{children_of, next_sibling_of}
use Rattle.tree.specs.TextContent.{text_data, concatenated, text_content}
use Rattle.tree.specs.TextLength.{text_length}
use Rattle.tree.proofs.NodeLaws.{attribute_cons_next}
use Rattle.filters.specs.Filters.{by_name, is_main_content, filter_depth, filtered}
use Rattle.filters.specs.Footer.{is_body, is_not_text, content_follows, followed_from, body_from}
use Rattle.filters.specs.Gathered.{attribute_names}
use Rattle.filters.specs.Icon.{is_icon}

-- attributes that agree on the twelve names
pub record ReadAlike (first second : List Attribute) : Type 0 where
  pub same : (name : Bytes) → one_of name attribute_names ≡ true → attribute first name ≡ attribute second name

-- ---- rows with other attributes in place of their own

module _ (node_of : ℕ → Node) (depths : List ℕ) (attributes : ℕ → List Attribute) where
  abbrev changed_of : ℕ → Node
  changed_of i = record { kind = (node_of i).kind; name = (node_of i).name; value = (node_of i).value; attributes = attributes i }

  texts_same : (rows : List ℕ) → concatenated node_of rows ≡ concatenated changed_of rows
  unfolding concatenated
  texts_same [] = refl
  texts_same (i ∷ rows) = ap (λ (s : Bytes). text_data (node_of i) ++ s) (texts_same rows)

  text_same : (i : ℕ) → text_length node_of depths i ≡ text_length changed_of depths i
  unfolding text_length text_content
  text_same i = λ k.
      length (collapse (elim (node_of i).kind [
        | element ↦ texts_same (preorder (children_of depths i)) k
        | text ↦ (node_of i).value
        | comment ↦ (node_of i).value
      ]))

  links_same : (rows : List ℕ) → links_among node_of depths rows ≡ links_among changed_of depths rows
  unfolding links_among
  links_same [] = refl
  links_same (i ∷ rows) = λ k. elim (is_link (node_of i)) [ true ↦ text_same i k + links_same rows k | false ↦ links_same rows k ]

  cluster_same : (rule : Rule) (i : ℕ) → link_cluster node_of depths rule i ≡ link_cluster changed_of depths rule i
  unfolding link_cluster
  cluster_same rule i = λ k.
      elim (node_of i).kind [
        | element ↦ exceeds rule (measure_of rule (text_same i k) (links_same (preorder (children_of depths i)) k))
        | text ↦ false
        | comment ↦ false
      ]

  body_same : (above i : ℕ) → body_from node_of depths above i ≡ body_from changed_of depths above i
  unfolding body_from
  body_same zero i = refl
  body_same (suc above) i = λ k.
      elim (is_body (node_of i)) [ true ↦ i | false ↦ elim (parent_of depths i) [ None ↦ i | Some parent ↦ body_same above parent k ] ]

  content_same : (next : Option ℕ) → content_follows node_of depths next ≡ content_follows changed_of depths next
  unfolding is_not_text
  content_same None = refl
  content_same (Some next) = refl

  followed_same : (above i : ℕ) → followed_from node_of depths above i ≡ followed_from changed_of depths above i
  unfolding followed_from
  followed_same zero i = refl
  followed_same (suc above) i = λ k.
      elim (parent_of depths i) [
        | None ↦ false
        | Some parent ↦
            elim (is_body (node_of parent)) [
              | true ↦ false
              | false ↦ elim (content_same (next_sibling_of depths i) k) [ true ↦ true | false ↦ followed_same above parent k ]
            ]
      ]

  module _ (alike : (i : ℕ) → ReadAlike (node_of i).attributes (attributes i)) (o : ExtractOptions) (i depth : ℕ) where
    name_same : (name : Bytes)
        → by_name node_of depths o i depth name (node_of i).attributes ≡ by_name changed_of depths o i depth name (attributes i)
    unfolding by_name one_of attribute_names words first_word other_words codes same
    name_same name = simp (cluster_same, followed_same, (alike i).same)

    main_content_same : is_main_content node_of depths o i depth ≡ is_main_content changed_of depths o i depth
    unfolding is_main_content
    main_content_same = λ k.
        elim (node_of i).kind [
          | text ↦ not (is_icon o.icons (trim (node_of i).value))
          | comment ↦ true
          | element ↦ name_same (node_of i).name k
        ]

-- ---- rows that agree on all that is read

pub record RowsReadAlike (n m : Node) : Type 0 where
  pub kind : n.kind ≡ m.kind
  pub name : n.name ≡ m.name
  pub value : n.value ≡ m.value
  pub attributes : ReadAlike n.attributes m.attributes

module _ (p : Page) (node_of : ℕ → Node) (alike : (i : ℕ) → RowsReadAlike (p.node i) (node_of i)) (o : ExtractOptions) (i : ℕ) where
  abbrev q : Page
  q = record { depths = p.depths; node = node_of; marked = p.marked; root = p.root }

  -- from the first to the second but for the attributes, which are the second's
  abbrev between : 𝕀 → ℕ → Node
  between k j = record { kind = (alike j).kind k; name = (alike j).name k; value = (alike j).value k; attributes = (node_of j).attributes }

  depth_same : filter_depth p i ≡ filter_depth q i
  unfolding filter_depth
  depth_same =
      let ds = p.depths in
      ap (λ (body : ℕ). get_or ds i 0 - get_or ds body 0)
      (body_same p.node ds (λ j. (node_of j).attributes) (get_or ds p.root 0) p.root
      ∙ (λ k. body_from (between k) ds (get_or ds p.root 0) p.root))

  pub filtered_same : filtered p o i ≡ filtered q o i
  unfolding filtered
  filtered_same =
      ap not
      (main_content_same p.node p.depths (λ j. (node_of j).attributes) (λ j. (alike j).attributes) o i (filter_depth p i)
      ∙ (λ k. is_main_content (between k) p.depths o i (depth_same k)))

-- ---- an alt that is written in

alt_unread : (name : Bytes) → one_of name attribute_names ≡ true → same (codes "alt") name ≡ false
unfolding one_of attribute_names words first_word other_words codes same
alt_unread name e =
    by_test (same (codes "alt") name)
    (λ h. absurd_test e (ap (λ (s : Bytes). one_of s attribute_names) (sym (same_true (codes "alt") name h))))
    (λ h. h)

-- missing_alt is not read
missing_alt_unread : (p : Page) (o : ExtractOptions) (on other : Bool) (i : ℕ)
    → filtered p (with_missing_alt on o) i ≡ filtered p (with_missing_alt other o) i
unfolding filtered
missing_alt_unread p o on other i = refl

-- into some rows
module _ (into : Node → Bool) (value : Bytes) where
  abbrev alt : Attribute
  alt = record { name = codes "alt"; value = value }

  abbrev written : Node → Node
  written n = record { kind = n.kind; name = n.name; value = n.value; attributes = cond (into n) (alt ∷ n.attributes) n.attributes }

  alt_read_alike : (b : Bool) (attributes : List Attribute) → ReadAlike attributes (cond b (alt ∷ attributes) attributes)
  alt_read_alike true attributes = record { same = λ name e. sym (attribute_cons_next alt attributes name (alt_unread name e)) }
  alt_read_alike false attributes = record { same = λ name e. refl }

  written_read_alike : (n : Node) → RowsReadAlike n (written n)
  written_read_alike n = record { kind = refl; name = refl; value = refl; attributes = alt_read_alike (into n) n.attributes }

  pub alt_filtered : (p : Page) (o : ExtractOptions) (on other : Bool) (i : ℕ)
      → filtered p (with_missing_alt on o) i
      ≡ filtered (record { depths = p.depths; node = λ j. written (p.node j); marked = p.marked; root = p.root })
      (with_missing_alt other o) i
  alt_filtered p o on other i =
      missing_alt_unread p o on other i
      ∙ filtered_same p (λ j. written (p.node j)) (λ j. written_read_alike (p.node j)) (with_missing_alt other o) i
