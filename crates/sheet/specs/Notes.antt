-- What the passes over the lines note: the first line at fault of each stage.
use Rattle.std.specs.Prelude.{is_none, Result, Ok, Err, ◌≡◌, Bool, true, false, ◌&&◌, cond, ℕ, zero, suc, ◌+◌, ◌≤◌, ◌<◌, leb, eqb, length, Option, None, Some}
use Rattle.common.specs.Bytes.{Bytes}
use Rattle.utf8.specs.Valid.{valid}
use Rattle.sheet.specs.Layout.{size_of, most_rows, most_attributes, most_depth, pool_limit, layout_of, row_at, pool_of}
use Rattle.sheet.specs.Lines.{line_right, quad_from, attribute_of, node_line_of}
use Rattle.sheet.specs.Verdict.{kind_right, row_ranges, row_texts, attribute_ranges, attribute_texts, body_right, nodes, node_format, node_kind, node_tree, node_range, node_text, counts_from, attributes, attribute_format, attribute_range, attribute_text}
use Rattle.sheet.specs.declared.line.Layout.{Layout}
use Rattle.sheet.specs.declared.line.Quad.{Quad}
use Rattle.sheet.specs.declared.line.Row.{Row}
use Rattle.sheet.specs.declared.notes.AttributeNotes.{AttributeNotes}
use Rattle.sheet.specs.declared.notes.Notes.{Notes}

abbrev pub note_of : Option ℕ → Bool → ℕ → Option ℕ
note_of (Some j) right i = Some j
note_of None true i = None
note_of None false i = Some i

-- a header that is right, and a length that is what it says
pub record Sized (s : Bytes) (l : Layout) : Type 0 where
  pub width : l.width ≤ 10
  pub some_node : 1 ≤ l.nodes
  pub nodes : l.nodes ≤ most_rows
  pub attributes : l.attributes ≤ most_attributes
  pub pool : l.pool ≤ pool_limit l.width
  pub root : l.root < l.nodes
  pub header : line_right l.width s 0 4 ≡ true
  pub layout : l ≡ layout_of l.width (quad_from l.width s 0)
  pub size : length s ≡ size_of l

-- where `whole`, a pool is UTF-8 as a whole
abbrev pub WholePool : Bytes → Bool → Type 0
WholePool pool whole = whole ≡ true → valid pool ≡ true

-- and a sheet's pool
abbrev pub Whole : Bytes → Layout → Bool → Type 0
Whole s l whole = WholePool (pool_of s l) whole

-- a row behind another, where all rows before it are right: only the row just before it can be a parent that is not an element
unfoldable pub later_right : Row → Row → Bool
later_right before r =
    leb 1 r.depth
    && (leb r.depth most_depth
    && (leb r.depth (suc before.depth)
    && cond (eqb r.depth (suc before.depth)) (eqb before.kind 1) true))

-- the test of row i's place in the tree, by the row before it
abbrev pub tree_right : Bytes → ℕ → Row → Row → Bool
tree_right pool zero before r = body_right pool r
tree_right pool (suc i) before r = later_right before r

-- the tests of row i together, where the rows before it are right: a text that is right lies in the pool
unfoldable pub row_right : Bytes → ℕ → Row → Row → Bool
row_right pool i before r = kind_right r && (tree_right pool i before r && row_texts pool r)

-- a line as row i, where it is right and its attributes, behind `first` others, are there
abbrev pub right_line : Bytes → Layout → ℕ → Row → ℕ → Option Row → Option Row
right_line s l i before first (Some r) =
    cond (row_right (pool_of s l) i before r && leb (first + r.attributes) l.attributes)
    (Some r)
    None
right_line s l i before first None = None

-- the line at `at`
unfoldable pub row_in : Bytes → Layout → ℕ → Row → ℕ → ℕ → Option Row
row_in s l i before at first = right_line s l i before first (node_line_of l.width s at)

-- the notes with row i's
unfoldable pub note_row : Bytes → Notes → ℕ → Row → Row → Notes
note_row pool n i before r =
    record {
      kind = note_of n.kind (kind_right r) i;
      tree = note_of n.tree (tree_right pool i before r) i;
      range = note_of n.range (row_ranges pool r) i;
      encoding = note_of n.encoding (row_texts pool r) i;
      counts = n.counts + r.attributes;
    }

-- what the pass over the node lines gives
abbrev pub nodes_notes : Bytes → Layout → Notes
nodes_notes s l =
    record {
      kind = nodes s l (node_kind s l);
      tree = nodes s l (node_tree s l);
      range = nodes s l (node_range s l);
      encoding = nodes s l (node_text s l);
      counts = counts_from s l 0 l.nodes;
    }

unfoldable pub nodes_read : Bytes → Layout → Result Notes ℕ
nodes_read s l = elim (nodes s l (node_format s l)) [ None ↦ Ok (nodes_notes s l) | Some i ↦ Err i ]

-- the notes with attribute line j's
unfoldable pub note_attribute : Bytes → AttributeNotes → ℕ → Quad → AttributeNotes
note_attribute pool n j q =
    record {
      range = note_of n.range (attribute_ranges pool (attribute_of q)) j;
      encoding = note_of n.encoding (attribute_texts pool (attribute_of q)) j;
    }

-- what the pass over the attribute lines gives
abbrev pub attributes_notes : Bytes → Layout → AttributeNotes
attributes_notes s l = record { range = attributes s l (attribute_range s l); encoding = attributes s l (attribute_text s l) }

unfoldable pub attributes_read : Bytes → Layout → Result AttributeNotes ℕ
attributes_read s l =
    elim (attributes s l (attribute_format s l)) [
      | None ↦ Ok (attributes_notes s l)
      | Some j ↦ Err j
    ]

-- every line has the right format
pub record Formatted (s : Bytes) (l : Layout) : Type 0 where
  pub of_nodes : nodes s l (node_format s l) ≡ None
  pub of_attributes : attributes s l (attribute_format s l) ≡ None

-- right lines and length, whatever the numbers say: 11 and 12 do not refuse s
pub record Lined (s : Bytes) (l : Layout) : Type 0 where
  pub width : l.width ≤ 10
  pub header : line_right l.width s 0 4 ≡ true
  pub layout : l ≡ layout_of l.width (quad_from l.width s 0)
  pub size : length s ≡ size_of l
  pub formats : Formatted s l

-- no attribute line is at fault
unfoldable pub attributes_right : Bytes → Layout → Bool
attributes_right s l =
    is_none (attributes s l (attribute_format s l)) && (is_none (attributes s l (attribute_range s l)) && is_none (attributes s l (attribute_text s l)))

-- what a sheet whose rows are right must have beside them, where their attribute counts sum to `counts`
unfoldable pub rest_right : Bytes → Layout → ℕ → Bool
unfolding attributes_right
rest_right s l counts = eqb counts l.attributes && (eqb (row_at s l l.root).kind 1 && attributes_right s l)
