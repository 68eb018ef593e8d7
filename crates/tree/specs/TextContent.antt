-- Text content: document 01, module 2, and the DOM standard, "get text content" and "descendant text content" (https://dom.spec.whatwg.org).
use mathlib.Core.List.{List, [], ◌∷◌, ◌++◌}
use Rattle.std.specs.Prelude.{ℕ}
use Rattle.common.specs.Bytes.{Bytes}
use Rattle.tree.specs.Forest.{Forest, preorder}
use Rattle.tree.specs.Node.{element, text, comment, Node}
use Rattle.tree.specs.Rows.{rows_from}

-- the data of a Text node, and nothing of any other
unfoldable pub text_data : Node → Bytes
text_data n = elim n.kind [ element ↦ [] | text ↦ n.value | comment ↦ [] ]

module _ {A : Type 0} (node_of : A → Node) where
  -- the data of the Text nodes among them, one after another
  unfoldable pub concatenated : List A → Bytes
  unfolding text_data
  concatenated [] = []
  concatenated (a ∷ l) = text_data (node_of a) ++ concatenated l

  -- "The descendant text content of a node node is the concatenation of the data of all the Text node descendants of node, in tree order."
  abbrev pub descendant_text : Forest A → Bytes
  descendant_text children = concatenated (preorder children)

  -- "text content (of an element all text below, comments not; of another row its value)"
  unfoldable pub text_content : A → Forest A → Bytes
  text_content a children = elim (node_of a).kind [ element ↦ descendant_text children | text ↦ (node_of a).value | comment ↦ (node_of a).value ]

-- the text of n rows from row i on
abbrev pub text_of_rows : (ℕ → Node) → ℕ → ℕ → Bytes
text_of_rows node_of i n = concatenated node_of (rows_from i n)
