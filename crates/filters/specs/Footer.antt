-- The rows above a row: the nearest body, and the loop over the parents of a footer (`is_main_content` of filters.rs, `extract_plain_text` of html2text.rs).
use Rattle.std.specs.Prelude.{◌≡◌, Bool, ◌||◌, List, length, get_or, Option, None, Some, is_some}
use Rattle.std.proofs.Math.Bool.{true, false}
use Prim.Native.Nat.{ℕ, zero, suc, ◌≤◌, ◌<◌}
use Rattle.sheet.specs.Column.{last_above, parent_of}
use Rattle.tags.specs.Words.{is}
use Rattle.tree.specs.Node.{element, text, comment, Node, tag}
use Rattle.tree.specs.Rows.{next_sibling_of}

-- `tag(node) == "body"`
unfoldable pub is_body : Node → Bool
unfolding tag
is_body n = is (tag n) "body"

-- `node.node_type() != Some(NodeType::Text)`
unfoldable pub is_not_text : Node → Bool
is_not_text n = elim n.kind [ element ↦ true | text ↦ false | comment ↦ true ]

-- The rows that row i stands in, by their depths: stack[d] is the last row at depth d before row i, for each d less than the depth of row i.
pub record Above (depths : List ℕ) (i : ℕ) (stack : List ℕ) : Type 0 where
  pub long : get_or depths i 0 ≤ length stack
  pub row : (d : ℕ) → d < get_or depths i 0 → last_above depths (suc d) i ≡ Some (get_or stack d 0)

module _ (node_of : ℕ → Node) (depths : List ℕ) where
  -- `while tag(&parent) != "body"`, with so many rows above row i
  unfoldable pub body_from : ℕ → ℕ → ℕ
  unfolding is_body
  body_from zero i = i
  body_from (suc above) i =
      elim (is_body (node_of i)) [ true ↦ i | false ↦ elim (parent_of depths i) [ None ↦ i | Some parent ↦ body_from above parent ] ]

  -- the nearest row named body at or above row i; a row at depth d has d rows above it
  abbrev pub body_above : ℕ → ℕ
  body_above i = body_from (get_or depths i 0) i

  -- `if let Some(next) = parent.next_sibling()`: `next.node_type() != Some(NodeType::Text) || next.next_sibling().is_some()`
  abbrev pub content_follows : Option ℕ → Bool
  content_follows None = false
  content_follows (Some next) = is_not_text (node_of next) || is_some (next_sibling_of depths next)

  -- `while let Some(next_parent) = parent.parent_node()`, with so many rows above row i
  unfoldable pub followed_from : ℕ → ℕ → Bool
  unfolding is_body is_not_text
  followed_from zero i = false
  followed_from (suc above) i =
      elim (parent_of depths i) [
        | None ↦ false
        | Some parent ↦
            elim (is_body (node_of parent)) [
              | true ↦ false
              | false ↦ elim (content_follows (next_sibling_of depths i)) [ true ↦ true | false ↦ followed_from above parent ]
            ]
      ]

  -- does the loop answer yes for row i
  abbrev pub followed : ℕ → Bool
  followed i = followed_from (get_or depths i 0) i
