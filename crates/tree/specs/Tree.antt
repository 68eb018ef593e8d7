-- What is to be shown of the tree of a sheet, as types.
use Rattle.std.specs.Prelude.{◌≡◌, List, ◌↔◌, ℕ, suc, ◌-◌, ◌<◌, length, get_or, drop, Option, None, Some}
use Rattle.sheet.specs.Column.{parent_of}
use Rattle.tree.specs.Forest.{Forest, empty, node, preorder, preorder_at, first, Place, Descendant}
use Rattle.tree.specs.Node.{element, Node}
use Rattle.tree.specs.Rows.{numbered, forest_of, children_of, rows_from, first_child_of, next_sibling_of, past_from, past_of}
use Rattle.tree.specs.TextContent.{text_content, text_of_rows}

-- "Rows are in document order": tree order, with depths, is the order of the rows, and of no other forest
pub record TreeOf {A : Type 0} (rows : List (ℕ × A)) (forest : Forest A) : Type 0 where
  pub order : preorder_at 0 forest ≡ rows
  pub only : (other : Forest A) → preorder_at 0 other ≡ rows → other ≡ forest

-- row j has one place in the forest, and its parent, first child, next sibling, descendants and text there are those of the depth column
pub record RowOf (depths : List ℕ) (forest : Forest ℕ) (j : ℕ) : Type 0 where
  pub parent : Option ℕ
  pub children : Forest ℕ
  pub rest : Forest ℕ
  pub place : Place None forest parent j children rest
  pub only : (q : Option ℕ) (cs rs : Forest ℕ) → Place None forest q j cs rs → (q ≡ parent) × (cs ≡ children) × (rs ≡ rest)
  -- what stands below it is `children_of`
  pub children_are : children ≡ children_of depths j
  -- "A row's parent is the last earlier row one depth less."
  pub parent_is : parent ≡ parent_of depths j
  pub first_child_is : first children ≡ first_child_of depths j
  pub next_sibling_is : first rest ≡ next_sibling_of depths j
  -- rows j + 1 up to the first one past
  pub descendant_is : (i : ℕ) → Descendant (parent_of depths) j i ↔ ((j < i) × (i < past_of depths j))
  pub descendants_are : preorder children ≡ rows_from (suc j) (past_of depths j - suc j)
  pub text_is : (node_of : ℕ → Node) → (node_of j).kind ≡ element → text_content node_of j children ≡ text_of_rows node_of (suc j) (past_of depths j - suc j)

pub record TreeOfColumn (depths : List ℕ) : Type 0 where
  pub tree : TreeOf (numbered 0 depths) (forest_of depths)
  -- row 0 is the only row with no parent
  pub root : (children : Forest ℕ) × (forest_of depths ≡ node 0 children empty)
  pub row : (j : ℕ) → j < length depths → RowOf depths (forest_of depths) j

-- row s is the first from row k on that is not deeper than d, and stands at depth d
pub record PastAtDepth (depths : List ℕ) (d k s : ℕ) : Type 0 where
  pub past : s ≡ past_from d k (drop k depths)
  pub inside : s < length depths
  pub depth : get_or depths s 0 ≡ d

-- a row has a next sibling exactly where the first row past it and all below it stands at its depth, and that row is it
abbrev pub SiblingPast : List ℕ → ℕ → Type 0
SiblingPast depths j = (s : ℕ) → (next_sibling_of depths j ≡ Some s) ↔ PastAtDepth depths (get_or depths j 0) (suc j) s
