-- The walk of `extract_plain_text`, from the point where root and blacklist are known: as the Rust's loop, and as a recursion over the tree.
use Rattle.std.specs.Prelude.{Bool, true, false, ◌||◌, cond, List, [], ◌∷◌, ◌++◌, ℕ, zero, suc, ◌+◌, ◌-◌, ◌*◌, eqb, length, Option, None, Some}
use Rattle.options.specs.declared.ExtractOptions.{ExtractOptions}
use Rattle.sheet.specs.Column.{parent_of}
use Rattle.tree.specs.Forest.{Forest, empty, node, has_trees}
use Rattle.tree.specs.Node.{Kind, element, text, comment, Node}
use Rattle.tree.specs.Page.{Page}
use Rattle.tree.specs.Rows.{children_of, first_child_of, next_sibling_of}
use Rattle.html2text.specs.Collect.{Event, Entry, collect}
use Rattle.html2text.specs.Serialize.{one}

abbrev pub is_comment : Kind → Bool
is_comment element = false
is_comment text = false
is_comment comment = true

abbrev pub is_some : {A : Type 0} → Option A → Bool
is_some None = false
is_some (Some a) = true

-- `hidden`: the rows that are marked, or that main_content and `is_main_content` leave out
module _ (node_of : ℕ → Node) (hidden : ℕ → Bool) where
  abbrev pub left_out : ℕ → Bool
  left_out i = is_comment (node_of i).kind || hidden i

  abbrev pub event_at : ℕ → Bool → ℕ → Bool → Event
  event_at i children d end = record { row = i; node = node_of i; children = children; depth = d; end = end }

  -- ---- over the tree: of a row that is not left out its beginning, what is below it and, where it has children, its end

  unfoldable pub events : ℕ → Forest ℕ → List Event
  events d empty = []
  events d (node i children rest) =
      cond (left_out i) []
      (event_at i (has_trees children) d false ∷ (events (suc d) children ++ cond (has_trees children) (event_at i true d true ∷ []) []))
      ++ events d rest

  -- "reached rows plus entered rows, where entered means reached, not left out, with a child"
  unfoldable pub visits : Forest ℕ → ℕ
  visits empty = 0
  visits (node i children rest) = cond (left_out i) 1 (1 + one (has_trees children) + visits children) + visits rest

-- the root and what is below it
abbrev pub tree_of : Page → Forest ℕ
tree_of p = node p.root (children_of p.depths p.root) empty

-- ---- as the Rust's loop

-- `nodes`, and the passes so far
pub record Sofar : Type 0 where
  pub nodes : List Entry
  pub passes : ℕ

-- `current`, `depth` and `end`
pub record Cursor : Type 0 where
  pub current : Option ℕ
  pub depth : ℕ
  pub end : Bool

-- `hidden`: the rows that are left out by the row and by the depth that the loop has counted
module _ (p : Page) (hidden : ℕ → ℕ → Bool) (o : ExtractOptions) where
  -- the condition of the body
  abbrev pub left_out_at : ℕ → ℕ → Bool
  left_out_at i d = left_out p.node (λ j. hidden j d) i

  -- the first half of the body: `collect`, where the row is not left out
  abbrev pub visit : ℕ → ℕ → Bool → Sofar → Sofar
  visit i d end so =
      record {
        nodes =
            cond (left_out_at i d) so.nodes
            (collect o so.nodes (event_at p.node (λ j. hidden j d) i (is_some (first_child_of p.depths i)) d end));
        passes = suc so.passes;
      }

  -- `else if let Some(next) = node.next_sibling()`, and its `else`
  abbrev pub beside_or_up : ℕ → ℕ → Option ℕ → Cursor
  beside_or_up i d (Some j) = record { current = Some j; depth = d; end = false }
  beside_or_up i d None = record { current = parent_of p.depths i; depth = d - 1; end = true }

  -- `else if node == root`
  abbrev pub onward : ℕ → ℕ → Cursor
  onward i d = cond (eqb i p.root) (record { current = None; depth = d; end = true }) (beside_or_up i d (next_sibling_of p.depths i))

  -- `if !end && let Some(child) = node.first_child()`
  abbrev pub down : ℕ → ℕ → Option ℕ → Cursor
  down i d (Some j) = record { current = Some j; depth = suc d; end = false }
  down i d None = onward i d

  -- the second half of the body; a row that is left out has set `end`
  abbrev pub turn : ℕ → ℕ → Bool → Cursor
  turn i d true = onward i d
  turn i d false = down i d (first_child_of p.depths i)

  -- `while let Some(node) = current`, at most k passes
  unfoldable pub loop_from : ℕ → Option ℕ → ℕ → Bool → Sofar → Sofar
  loop_from zero c d end so = so
  loop_from (suc k) None d end so = so
  loop_from (suc k) (Some i) d end so =
      let t = turn i d (left_out_at i d || end) in
      loop_from k t.current t.depth t.end (visit i d end so)

  -- "At most 2·N" passes
  abbrev pub loop : Sofar
  loop = loop_from (2 * length p.depths) (Some p.root) 0 false (record { nodes = []; passes = 0 })
