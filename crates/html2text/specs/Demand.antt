-- The words of demand 3, and what it claims of two pages that differ in marks alone.
use Rattle.std.specs.Prelude.{◌≡◌, Bool, true, false, ◌&&◌, ◌||◌, not, List, [], ℕ, suc, ◌+◌, ◌<◌, length, get_or, Some}
use Rattle.common.specs.Bytes.{Bytes, is_empty}
use Rattle.options.specs.declared.ExtractOptions.{ExtractOptions}
use Rattle.sheet.specs.Column.{parent_of}
use Rattle.tags.specs.Words.{is, one_of, words}
use Rattle.text.specs.Text.{is_space, struck}
use Rattle.tree.specs.Node.{Kind, element, text, comment, Node, tag}
use Rattle.tree.specs.Page.{Page}
use Rattle.tree.specs.Rows.{next_sibling_of}
use Rattle.html2text.specs.Extract.{hidden}
use Rattle.html2text.specs.Pieces.{Piece, pieces, struck_pieces, without}
use Rattle.html2text.specs.Walk.{is_comment, tree_of}

-- "every blank is U+0020, never three together, none last"
pub record BlanksRight (t : Bytes) : Type 0 where
  pub spaces : (i : ℕ) → i < length t → is_space (get_or t i 0) ≡ true → get_or t i 0 ≡ 0x20
  pub apart : (i : ℕ) → i + 2 < length t → is_space (get_or t i 0) ≡ true → is_space (get_or t (i + 1) 0) ≡ true → is_space (get_or t (i + 2) 0) ≡ true → ⊥
  pub last : (i : ℕ) → suc i ≡ length t → is_space (get_or t i 0) ≡ false

-- "Cells are the elements td and th"
abbrev pub is_cell_node : Node → Bool
is_cell_node n = one_of (tag n) (words "td th")

abbrev pub is_text : Kind → Bool
is_text element = false
is_text text = true
is_text comment = false

-- "blank text has no other" byte than blanks
abbrev pub is_blank_text : Node → Bool
is_blank_text n = is_text n.kind && is_empty (struck n.value)

-- row j is a later sibling of row i
pub data LaterSibling (depths : List ℕ) : ℕ → ℕ → Type 0 where
  next : {i j : ℕ} → next_sibling_of depths i ≡ Some j → LaterSibling depths i j
  after : {i j k : ℕ} → LaterSibling depths i j → next_sibling_of depths j ≡ Some k → LaterSibling depths i k

-- "every cell's parent is a tr and every later sibling of a cell is a cell, a comment, blank text or a marked row"
pub record CellsRight (p : Page) : Type 0 where
  pub parent : (i : ℕ) → i < length p.depths → is_cell_node (p.node i) ≡ true
      → (q : ℕ) × (parent_of p.depths i ≡ Some q) × (is (tag (p.node q)) "tr" ≡ true)
  pub later : (i j : ℕ) → i < length p.depths → is_cell_node (p.node i) ≡ true → LaterSibling p.depths i j
      → (is_cell_node (p.node j) || (is_comment (p.node j).kind || (is_blank_text (p.node j) || p.marked j))) ≡ true

-- the pieces of a page's visible rows, in document order; `filtered` says which rows are filtered out
abbrev pub visible_pieces : (Page → ExtractOptions → ℕ → Bool) → Page → ExtractOptions → List Piece
visible_pieces filtered p o = pieces p.node (hidden (filtered p o) p o) o [] (tree_of p)

-- marked in the second page, and not in the first
abbrev pub further_marked : Page → Page → ℕ → Bool
further_marked p₁ p₂ i = p₂.marked i && not (p₁.marked i)

-- "each text, with blanks struck out, equals the pieces of its sheet's visible rows, in document order and nothing else; and the second's
-- equals the first's pieces less exactly those at and under the further marked rows, the others in their old order"
pub record TextsArePieces (filtered : Page → ExtractOptions → ℕ → Bool) (o : ExtractOptions) (p₁ p₂ : Page) (t₁ t₂ : Bytes) : Type 0 where
  pub first : struck t₁ ≡ struck_pieces (visible_pieces filtered p₁ o)
  pub second : struck t₂ ≡ struck_pieces (visible_pieces filtered p₂ o)
  pub second_less : struck t₂ ≡ struck_pieces (without (further_marked p₁ p₂) (visible_pieces filtered p₁ o))

-- the pages differ in marks alone, and the second has those of the first
pub record FurtherMarks (p₁ p₂ : Page) : Type 0 where
  pub depths : p₂.depths ≡ p₁.depths
  pub node : p₂.node ≡ p₁.node
  pub root : p₂.root ≡ p₁.root
  pub kept : (i : ℕ) → p₁.marked i ≡ true → p₂.marked i ≡ true
