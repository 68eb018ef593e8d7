-- `node_format_visible_text` of serialize.rs (document 02, request 6): the text of a row, with the greatest length that it has on the way.
-- Skip marks, options and the sheet's root are not asked.
use Rattle.std.specs.Prelude.{Bool, true, false, not, cond, List, [], ◌∷◌, ℕ, zero, suc, eqb, Option, None, Some}
use Rattle.common.specs.Bytes.{Bytes}
use Rattle.sheet.specs.Column.{parent_of}
use Rattle.tags.specs.Words.{words, is, one_of}
use Rattle.text.specs.Text.{is_ascii_whitespace}
use Rattle.tree.specs.Forest.{Forest, empty, node, has_trees}
use Rattle.tree.specs.Node.{element, text, comment, Node, tag}
use Rattle.tree.specs.Rows.{children_of, first_child_of, next_sibling_of}
use Rattle.tree.specs.TextContent.{text_content}
use Rattle.writer.specs.Out.{Out, nothing, push_all, strip_by}
use Rattle.visible_text.specs.CollapseWhitespace.{collapse_whitespace, ends_blank}
use Rattle.visible_text.specs.WhiteSpace.{trim_start}

-- `is_block_element`
unfoldable pub is_block_element : Bytes → Bool
is_block_element name =
    one_of name (words "address article aside blockquote canvas dd div dl dt fieldset figcaption figure footer form h1 h2 h3 h4 h5 h6 header hr li main nav ol p pre section table tfoot ul video")

-- `text.push('\n'); if tag_name == lxb_tag_id_enum_t::LXB_TAG_P { text.push('\n'); }`
abbrev pub line_feeds : Bytes → Bytes
line_feeds name = cond (is name "p") (0x0a ∷ 0x0a ∷ []) (0x0a ∷ [])

-- `insert_block`: `if !is_block_element(tag_name) { return; }`
-- `text.truncate(text.trim_end_matches(|c: char| c.is_ascii_whitespace()).len());`
unfoldable pub insert_block : Bytes → Out → Out
insert_block name o = elim (is_block_element name) [ true ↦ push_all (line_feeds name) (strip_by is_ascii_whitespace o) | false ↦ o ]

-- `LXB_TAG_SCRIPT | LXB_TAG_STYLE | LXB_TAG_NOSCRIPT`
unfoldable pub is_silent : Bytes → Bool
is_silent name = one_of name (words "script style noscript")

-- let s = collapse_whitespace(str_from_dom_node(node).unwrap_or_default());
-- if ctx.text.chars().last().unwrap_or(' ').is_ascii_whitespace() {
--     ctx.text.push_str(s.trim_start());
-- } else {
--     ctx.text.push_str(s.as_str());
-- }
abbrev pub added_text : Bytes → Bytes → Bytes
added_text before value = cond (ends_blank before) (trim_start (collapse_whitespace value)) (collapse_whitespace value)

abbrev pub add_text : Bytes → Out → Out
add_text value o = push_all (added_text o.text value) o

module _ (node_of : ℕ → Node) where
  -- ---- `node_format_cb_begin`

  -- `match lname`; `children`: what stands below the row
  unfoldable pub begin_element : ℕ → Forest ℕ → Out → Out
  begin_element i children o =
      elim (is_silent (node_of i).name) [
        | true ↦ o
        | false ↦
            elim (is (node_of i).name "pre") [
              | true ↦ push_all (text_content node_of i children) o
              | false ↦ elim (is (node_of i).name "br") [ true ↦ push_all (0x0a ∷ []) o | false ↦ insert_block (node_of i).name o ]
            ]
      ]

  -- `if (*node).type_ == LXB_DOM_NODE_TYPE_TEXT`, `if (*node).type_ != LXB_DOM_NODE_TYPE_ELEMENT`
  unfoldable pub begin : ℕ → Forest ℕ → Out → Out
  begin i children o =
      elim (node_of i).kind [
        | text ↦ add_text (node_of i).value o
        | comment ↦ o
        | element ↦ begin_element i children o
      ]

  -- the rows that it answers with LEXBOR_ACTION_OK, not with LEXBOR_ACTION_NEXT
  unfoldable pub enters : ℕ → Bool
  enters i =
      elim (node_of i).kind [
        | text ↦ true
        | comment ↦ false
        | element ↦ not (one_of (node_of i).name (words "script style noscript pre br"))
      ]

  -- ---- `node_format_cb_end`: a row that is no element has no name, and so no block's

  abbrev pub end : ℕ → Out → Out
  end i o = insert_block (tag (node_of i)) o

  -- ---- `dom_node_walk` as a recursion, of rows that stand beside each other: of one that has a next sibling there is no end step, and
  -- that sibling comes next; the last of them has its end step, after all that is below it, and the walk climbs to their parent

  unfoldable pub walk : Forest ℕ → Out → Out
  walk empty o = o
  walk (node i children rest) o =
      let below : Out = elim (enters i) [ true ↦ walk children (begin i children o) | false ↦ begin i children o ] in
      elim (has_trees rest) [ true ↦ walk rest below | false ↦ end i below ]

  -- `node_format_visible_text`: the walk begins at the row's first child and ends when it has climbed to the row, which itself has no begin
  -- step and no end step
  unfoldable pub visible : List ℕ → ℕ → Out
  visible depths row = walk (children_of depths row) nothing

-- ---- `dom_node_walk` as the Rust's loops

-- `node`, and `ctx.text`
pub record Cursor : Type 0 where
  pub row : Option ℕ
  pub text : Out

module _ (node_of : ℕ → Node) (depths : List ℕ) (root : ℕ) where
  -- while node != root && (*node).next.is_null() {
  --     end_fn(node, ctx);
  --     node = (*node).parent;
  -- }
  -- in at most k passes
  unfoldable pub climb : ℕ → ℕ → Out → Cursor
  climb zero i o = record { row = Some i; text = o }
  climb (suc k) i o =
      elim (not (eqb i root)) [
        | false ↦ record { row = Some i; text = o }
        | true ↦
            elim (next_sibling_of depths i) [
              | Some j ↦ record { row = Some i; text = o }
              | None ↦ elim (parent_of depths i) [ Some p ↦ climb k p (end node_of i o) | None ↦ record { row = None; text = end node_of i o } ]
            ]
      ]

  -- `if node == root { break; }`, `node = (*node).next;`
  abbrev pub following : Option ℕ → Option ℕ
  following None = None
  following (Some i) = cond (eqb i root) None (next_sibling_of depths i)

  -- `!(*node).first_child.is_null() && action != LEXBOR_ACTION_NEXT`: the first child, where the walk goes down to it
  abbrev pub down : ℕ → Option ℕ
  down i = cond (enters node_of i) (first_child_of depths i) None

  -- while !node.is_null() {
  --     action = begin_fn(node, ctx);
  --     if action == LEXBOR_ACTION_STOP { return; }
  --     if !(*node).first_child.is_null() && action != LEXBOR_ACTION_NEXT {
  --         node = (*node).first_child;
  --     } else { .. }
  -- }
  -- in at most k passes, with at most `most` of the inner loop in each; no step answers LEXBOR_ACTION_STOP, since no node is null
  unfoldable pub loop_from : ℕ → ℕ → Option ℕ → Out → Out
  loop_from most zero c o = o
  loop_from most (suc k) None o = o
  loop_from most (suc k) (Some i) o =
      let begun : Out = begin node_of i (children_of depths i) o in
      elim (down i) [
        | Some j ↦ loop_from most k (Some j) begun
        | None ↦
            let climbed : Cursor = climb most i begun in
            loop_from most k (following climbed.row) climbed.text
      ]

  -- `let mut node = (*root).first_child;`, with at most n passes of each loop
  abbrev pub loop : ℕ → Out
  loop n = loop_from n n (first_child_of depths root) nothing
