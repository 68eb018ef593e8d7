-- `is_main_content` of filters.rs (document 01, module 5), with its order of tests. Each test stands over what it reads.
use Rattle.std.specs.Prelude.{Bool, ◌&&◌, ◌||◌, List, ℕ, ◌-◌, leb, ltb, get_or}
use Rattle.std.proofs.Math.Bool.{true, false, not, cond}
use Prim.Native.String.{String}
use Rattle.common.specs.Bytes.{Bytes, codes, is_empty}
use Rattle.links.specs.Links.{link_cluster, fifth_of_any, fifth_of500, three_fifths_of800, three_fifths_of1500}
use Rattle.links.specs.declared.Rule.{Rule}
use Rattle.options.specs.declared.ExtractOptions.{ExtractOptions}
use Rattle.patterns.specs.Patterns.{article_cls, nav_cls, recommended_cls, landmark_id, header_cls, footer_cls, post_meta_cls, sidebar_cls, search_cls, skip_link_cls, display_cls, display_css, modal_cls, gallery_cls, signin_cls, ads_cls, social_cls, comments_cls, logo_cls, print_cls, other_junk_cls}
use Rattle.byte_regex.specs.Joined.{joined}
use Rattle.byte_regex.specs.Match.{finds}
use Rattle.tags.specs.Tags.{is_block}
use Rattle.tags.specs.Words.{words, is, one_of}
use Rattle.text.specs.Text.{trim}
use Rattle.tree.specs.Node.{element, text, comment, Attribute, Node, attribute, is_there, attribute_or_empty}
use Rattle.tree.specs.Page.{Page}
use Rattle.filters.specs.Footer.{followed_from, followed, body_from, body_above}
use Rattle.filters.specs.Icon.{is_icon}

-- ---- attributes

-- `has_attr(node, name)`
abbrev pub has_attr : List Attribute → String → Bool
has_attr attributes name = is_there (attribute attributes (codes name))

-- `attr(node, name)`
abbrev pub attr : List Attribute → String → Bytes
attr attributes name = attribute_or_empty attributes (codes name)

-- `matches!(trim(&attr(node, name)), ..)`
abbrev pub attr_among : List Attribute → String → String → Bool
attr_among attributes name values = one_of (trim (attr attributes name)) (words values)

-- ---- the tests

unfoldable pub hidden_by_attribute : List Attribute → Bool
hidden_by_attribute attributes =
    has_attr attributes "hidden"
    || (attr_among attributes "rel" "author icon search prev next tag"
    || (attr_among attributes "itemprop" "datePublished author url"
    || (attr_among attributes "aria-hidden" "true"
    || attr_among attributes "aria-expanded" "false")))

unfoldable pub not_displayed : Bool → Bytes → Bytes → Bool
not_displayed hidden_elements class style = (not hidden_elements && finds display_cls class) || finds display_css style

unfoldable pub skip_link : Bytes → Bytes → Bool
skip_link name combined = one_of name (words "a div li") && finds skip_link_cls combined

unfoldable pub signin_meta_or_social : Bool → ℕ → Bytes → Bool
signin_meta_or_social post_meta depth class =
    ltb 2 depth && (finds signin_cls class || ((not post_meta && finds post_meta_cls class) || finds social_cls class))

-- `["data-ad", "data-advertisement", "data-text-ad"].iter().any(|a| has_attr(node, a))`
unfoldable pub ad_attribute : List Attribute → Bool
ad_attribute attributes = has_attr attributes "data-ad" || (has_attr attributes "data-advertisement" || has_attr attributes "data-text-ad")

unfoldable pub logo_or_ad : List Attribute → Bytes → Bytes → Bool
unfolding ad_attribute
logo_or_ad attributes class combined =
    finds logo_cls combined || (finds ads_cls combined || (ad_attribute attributes || finds other_junk_cls class))

-- `!is_block(&name) && name != "td"`
unfoldable pub not_block : Bytes → Bool
unfolding is_block
not_block name = not (is_block name) && not (is name "td")

unfoldable pub rel_main : List Attribute → Bool
rel_main attributes = attr_among attributes "rel" "main"

unfoldable pub role_outside : List Attribute → Bool
role_outside attributes =
    attr_among attributes "role" "alert banner checkbox comment complementary contentinfo dialog img menu menubar menuitem navigation presentation radio search searchbox separator tab toolbar tooltip"

unfoldable pub comment_section : Bool → Bytes → Bool
comment_section comments combined = not comments && finds comments_cls combined

unfoldable pub article : Bytes → Bytes → Bool
article name combined = is name "article" || finds article_cls combined

unfoldable pub landmark : Bytes → Bytes → Bool
landmark id combined =
    finds landmark_id id
    || (finds header_cls combined
    || (finds footer_cls combined
    || (finds nav_cls combined
    || (finds recommended_cls combined
    || (finds search_cls combined
    || (finds sidebar_cls combined
    || (finds modal_cls combined
    || (finds gallery_cls combined
    || finds print_cls combined))))))))

-- ---- the stages of an element, each by the next; `cluster` is `link_cluster(node, ..)`

-- from `rel` being "main" on
unfoldable pub by_block : ExtractOptions → (Rule → Bool) → ℕ → Bytes → List Attribute → Bytes → Bytes → Bool
unfolding rel_main role_outside comment_section article landmark
by_block o cluster depth name attributes class id =
    cond (rel_main attributes) true
    (cond (role_outside attributes) false
    (cond (comment_section o.comments (joined class id)) false
    (cond (article name (joined class id)) true
    (cond (landmark id (joined class id)) false
    (not (ltb 2 depth && (is name "div" && cluster three_fifths_of1500)))))))

-- from `combined` on
unfoldable pub by_class_and_id : ExtractOptions → (Rule → Bool) → ℕ → Bytes → List Attribute → Bytes → Bytes → Bool
unfolding skip_link signin_meta_or_social logo_or_ad not_block by_block
by_class_and_id o cluster depth name attributes class id =
    cond (skip_link name (joined class id)) false
    (cond (signin_meta_or_social o.post_meta depth class) false
    (cond (logo_or_ad attributes class (joined class id)) false
    (cond (not_block name) true
    (by_block o cluster depth name attributes class id))))

-- from `hidden` on
unfoldable pub by_attributes : ExtractOptions → (Rule → Bool) → ℕ → Bytes → List Attribute → Bool
unfolding hidden_by_attribute not_displayed by_class_and_id
by_attributes o cluster depth name attributes =
    let class = attr attributes "class" in
    let id = attr attributes "id" in
    cond (hidden_by_attribute attributes) false
    (cond (not_displayed o.hidden_elements class (attr attributes "style")) false
    (cond (is_empty class && is_empty id) (not (is name "div") || (leb depth 5 || not (cluster three_fifths_of800)))
    (by_class_and_id o cluster depth name attributes class id)))

-- ---- a row of a page

module _ (node_of : ℕ → Node) (depths : List ℕ) (o : ExtractOptions) (i depth : ℕ) where
  -- `link_cluster(node, ..)`
  abbrev pub cluster : Rule → Bool
  cluster rule = link_cluster node_of depths rule i

  -- an element, from its name on
  unfoldable pub by_name : Bytes → List Attribute → Bool
  unfolding by_attributes followed_from link_cluster
  by_name name attributes =
      cond (one_of name (words "body main h1")) true
      (cond (is name "footer") (cond (ltb depth 3 || cluster fifth_of_any) false (followed node_of depths i))
      (cond (is name "ul" && (ltb depth 4 || cluster fifth_of_any)) false
      (cond (is name "article" && (ltb 2 depth && cluster fifth_of500)) false
      (cond (one_of name (words "nav aside audio video time")) false
      (by_attributes o cluster depth name attributes)))))

  -- `is_main_content(node, depth, opts)` for row i
  unfoldable pub is_main_content : Bool
  unfolding is_icon by_name
  is_main_content =
      elim (node_of i).kind [
        | text ↦ not (is_icon o.icons (trim (node_of i).value))
        | comment ↦ true
        | element ↦ by_name (node_of i).name (node_of i).attributes
      ]

-- "Depth counts from the nearest row named body at or above the root": `depth + base_depth`
unfoldable pub filter_depth : Page → ℕ → ℕ
unfolding body_from
filter_depth p i = get_or p.depths i 0 - get_or p.depths (body_above p.node p.depths p.root) 0

-- "Filtered out means that main_content is on and `is_main_content` says no to the row, the icon rule included.": the second of the two
unfoldable pub filtered : Page → ExtractOptions → ℕ → Bool
unfolding is_main_content filter_depth
filtered p o i = not (is_main_content p.node p.depths o i (filter_depth p i))
