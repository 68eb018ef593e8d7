-- `collect` of html2text.rs: one event of the walk, and the entries that it makes.
use Rattle.std.specs.Prelude.{Bool, true, ◌&&◌, ◌||◌, not, cond, List, [], ◌∷◌, ◌++◌, ℕ, ◌+◌, ◌-◌, ltb, unwrap_or}
use Rattle.common.specs.Bytes.{Bytes, codes, is_empty}
use Rattle.options.specs.Options.{is_basic, is_minimal_html}
use Rattle.options.specs.declared.ExtractOptions.{ExtractOptions}
use Rattle.options.specs.declared.Formatting.{Formatting}
use Rattle.options.specs.declared.Formatting.TheVariants.{Off, Basic, MinimalHtml}
use Rattle.tags.specs.Tags.{tag_of, is_block_tag, is_big_block, is_cell, is_pre, is_br, is_a, is_textarea, is_image, is_button, is_input}
use Rattle.tags.specs.Words.{one_of, words}
use Rattle.text.specs.Text.{trim, escape}
use Rattle.tree.specs.Node.{element, text, comment, Node, tag, attribute, attribute_or_empty}
use Rattle.html2text.specs.declared.ExtractNode.{ExtractNode}

-- a pass of the walk's loop that is not left out: `collect`'s arguments; `children` is `node.has_child_nodes()`
pub record Event : Type 0 where
  pub row : ℕ
  pub node : Node
  pub children : Bool
  pub depth : ℕ
  pub end : Bool

-- an `ExtractNode` with its text, and the row that pushed it
pub record Entry : Type 0 where
  pub row : ℕ
  pub node : ExtractNode
  pub text : Bytes

-- `tag(node)`, as a number
abbrev pub tag_number : Node → ℕ
tag_number n = tag_of (tag n)

-- `attr(node, name)`: an absent one reads as empty
abbrev pub attr : Node → Bytes → Bytes
attr n name = attribute_or_empty n.attributes name

-- `last.map_or(0, |n| n.pre_depth)`
abbrev pub last_pre_depth : List Entry → ℕ
last_pre_depth [] = 0
last_pre_depth (last ∷ before) = last.node.pre_depth

-- `opts.links && name == "a"`
abbrev pub is_link : ExtractOptions → ℕ → Bool
is_link o t = o.links && is_a t

-- whether an event at `depth` pushes an entry, where there is one already, at depth `last`
abbrev pub pushes_after : ExtractOptions → ℕ → ℕ → ℕ → Bool
pushes_after o last t depth = (is_block_tag t || ltb depth last) || (is_link o t || (is_textarea t || is_cell t))

-- entries are held newest first
abbrev pub pushes : ExtractOptions → List Entry → Event → Bool
pushes o [] e = true
pushes o (last ∷ before) e = pushes_after o last.node.depth (tag_number e.node) e.depth

abbrev pub pre_depth_of : ℕ → Bool → ℕ → ℕ
pre_depth_of t end before = cond (is_pre t || is_textarea t) (cond end (before - 1) (before + 1)) before

-- `ExtractNode { .. }`; `before` is the `pre_depth` of the entry before
abbrev pub pushed_node : ExtractOptions → ℕ → Event → ExtractNode
pushed_node o before e =
    let t = tag_number e.node in
    record {
      tag = t;
      has_children = e.children;
      depth = e.depth;
      pre_depth = pre_depth_of t e.end before;
      collapse_margins = true;
      block = is_block_tag t;
      big_block = is_big_block t;
      end = e.end;
      escape = is_minimal_html o.formatting;
    }

-- `nodes.push(..)`
abbrev pub pushed : ExtractOptions → List Entry → Event → Entry
pushed o nodes e = record { row = e.row; node = pushed_node o (last_pre_depth nodes) e; text = [] }

-- `if name == "br" && opts.formatting == Formatting::Basic`, `else if opts.links && name == "a"`: what they set in `current`
abbrev pub is_break : ExtractOptions → ℕ → Bool
is_break o t = is_basic o.formatting && is_br t

abbrev pub marked : ExtractOptions → ℕ → ExtractNode → ExtractNode
marked o t n =
    record {
      tag = n.tag;
      has_children = n.has_children;
      depth = n.depth;
      pre_depth = n.pre_depth;
      collapse_margins = n.collapse_margins && not (is_break o t);
      block = n.block && not (is_link o t);
      big_block = n.big_block;
      end = n.end;
      escape = n.escape && not (is_minimal_html o.formatting && is_link o t);
    }

-- the text of a link's entry, by formatting and end
abbrev pub link_text : Formatting → Bool → Bytes → Bytes
link_text Off end href = cond end (codes " (" ++ (trim href ++ codes ")")) []
link_text Basic end href = cond end (codes " (" ++ (trim href ++ codes ")")) []
link_text MinimalHtml end href = cond end (codes "</a>") (codes "<a href=\"" ++ (escape (trim href) ++ codes "\">"))

-- "the six types named in `collect`"
abbrev pub is_unshown_type : Bytes → Bool
is_unshown_type s = one_of s (words "checkbox color file hidden radio reset")

-- `if trim(&value).is_empty() { attr(node, "placeholder") } else { value }`
abbrev pub field_value : Node → Bytes
field_value n = cond (is_empty (trim (attr n (codes "value")))) (attr n (codes "placeholder")) (attr n (codes "value"))

-- what stands for an alt that is absent, with missing_alt on or off; document 02, CR 4: "writes "[picture]" for an img or area with no alt
-- attribute"
abbrev pub missing_alt : Bool → Bytes
missing_alt on = cond on (codes "[picture]") []

-- an img's or area's alt
abbrev pub alt_text : ExtractOptions → Node → Bytes
alt_text o n = unwrap_or (attribute n.attributes (codes "alt")) (missing_alt o.missing_alt)

-- of an element
unfoldable pub added_by_element : ExtractOptions → Node → Bool → Bytes
added_by_element o n end =
    let t = tag_number n in
    cond (is_break o t) []
    (cond (is_link o t) (link_text o.formatting end (attr n (codes "href")))
    (cond (o.alt_texts && is_image t) (alt_text o n)
    (cond (o.form_fields && (is_textarea t || is_button t)) (cond end (codes " ] ") (codes "[ "))
    (cond (o.form_fields && (is_input t && not (is_unshown_type (trim (attr n (codes "type"))))))
    (cond (is_empty (trim (field_value n))) [] (codes "[ " ++ (trim (field_value n) ++ codes " ] ")))
    []))))

-- what an event adds to the text of the current entry, whose tag is `current`
unfoldable pub added : ExtractOptions → Node → Bool → ℕ → Bytes
added o n end current =
    elim n.kind [
      | element ↦ added_by_element o n end
      | text ↦ cond (is_minimal_html o.formatting && is_a current) (escape n.value) n.value
      | comment ↦ []
    ]

-- the current entry after an event
abbrev pub amended : ExtractOptions → Event → Entry → Entry
amended o e n =
    record {
      row = n.row;
      node = marked o (tag_number e.node) n.node;
      text = n.text ++ added o e.node e.end n.node.tag;
    }

-- `nodes.last_mut().unwrap()`: there is one
abbrev pub on_last : (Entry → Entry) → List Entry → List Entry
on_last f [] = []
on_last f (n ∷ before) = f n ∷ before

unfoldable pub collect : ExtractOptions → List Entry → Event → List Entry
collect o nodes e = on_last (amended o e) (cond (pushes o nodes e) (pushed o nodes e ∷ nodes) nodes)

unfoldable pub collect_all : ExtractOptions → List Entry → List Event → List Entry
collect_all o nodes [] = nodes
collect_all o nodes (e ∷ es) = collect_all o (collect o nodes e) es
