-- What is to be shown of every column of depths, every list of attributes and every accepted sheet, as types.
use Rattle.std.specs.Prelude.{◌≡◌, List, ℕ, suc, ◌-◌, ◌<◌, length, Some, Ok, slice_get}
use Rattle.common.specs.Bytes.{Bytes}
use Rattle.sheet.specs.Verdict.{verdict}
use Rattle.sheet.specs.declared.line.Layout.{Layout}
use Rattle.utf8.specs.Encoding.{UTF8}
use Rattle.tree.specs.Attributes.{value_in, range_of}
use Rattle.tree.specs.Node.{element, Attribute, attribute, AttributeByName}
use Rattle.tree.specs.Page.{node_at, page_of}
use Rattle.tree.specs.Rows.{WellFormed, children_of, past_of}
use Rattle.tree.specs.TextContent.{text_content, text_of_rows}
use Rattle.tree.specs.Tree.{TreeOfColumn, SiblingPast}

-- the column of depths of rows in document order is that of one tree, in which parent, first child, next sibling, children, descendants and text
-- content are those of the column
abbrev pub ColumnIsTree : Type 0
ColumnIsTree = (depths : List ℕ) → WellFormed depths → TreeOfColumn depths

-- the next sibling is the first row past a row and all below it, if that stands at its depth
abbrev pub SiblingIsPast : Type 0
SiblingIsPast = (depths : List ℕ) (j : ℕ) → SiblingPast depths j

-- "If a row has two attributes of one name, the first counts."
abbrev pub FirstCounts : Type 0
FirstCounts = (attributes : List Attribute) (name : Bytes) → AttributeByName attributes name

-- "one attribute's range": what is found for an attribute of row i holds its value
abbrev pub RangeIsValue : Type 0
RangeIsValue = (s : Bytes) (l : Layout) (i : ℕ) (name : Bytes) → value_in s l (range_of s l i name) ≡ attribute (node_at s l i).attributes name

-- The page of an accepted sheet: "Tree order and text content: WHATWG DOM. UTF-8: RFC 3629" (document 01).
pub record SheetTree (s : Bytes) (l : Layout) : Type 0 where
  pub rows : length (page_of s l).depths ≡ l.nodes
  pub column : WellFormed (page_of s l).depths
  -- tree order, parent, first child, next sibling, children and descendants of each row
  pub tree : TreeOfColumn (page_of s l).depths
  -- "text content (of an element all text below, comments not; ..)": the texts of the rows up to the first that is not deeper
  pub text : (i : ℕ) → i < l.nodes → ((page_of s l).node i).kind ≡ element
      → text_content (page_of s l).node i (children_of (page_of s l).depths i) ≡ text_of_rows (page_of s l).node (suc i) (past_of (page_of s l).depths i - suc i)
  -- every range that a row shows
  pub name : (i : ℕ) → i < l.nodes → UTF8 ((page_of s l).node i).name
  pub value : (i : ℕ) → i < l.nodes → UTF8 ((page_of s l).node i).value
  pub attributes : (i : ℕ) → i < l.nodes → (k : ℕ) (a : Attribute) → slice_get ((page_of s l).node i).attributes k ≡ Some a → UTF8 a.name × UTF8 a.value

abbrev pub SheetIsTree : Type 0
SheetIsTree = (s : Bytes) (l : Layout) → verdict s ≡ Ok l → SheetTree s l
