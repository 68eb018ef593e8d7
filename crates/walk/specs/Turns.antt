-- The passes of the walk's loop over the tree, and what is left of them where the walk stands.
use Rattle.std.specs.Prelude.{◌≡◌, Bool, true, false, cond, List, [], ◌∷◌, ◌++◌, ℕ, suc, ◌+◌, ◌≤◌, ◌<◌, length, get_or, Option, None, Some}
use Rattle.tree.specs.Forest.{Forest, empty, node, has_trees}
use Rattle.tree.specs.Node.{Node}
use Rattle.tree.specs.Rows.{WellFormed, children_of, forest_from, open_rows}
use Rattle.html2text.specs.Collect.{Event}
use Rattle.html2text.specs.Walk.{left_out, event_at, events, visits}
use Rattle.walk.specs.declared.cursor.Turn.{Turn}
use Rattle.walk.specs.declared.cursor.Turn.TheVariants.{Begin, End, LeftOut}
use Rattle.walk.specs.declared.cursor.Walk.{Walk}
use Rattle.walk.specs.declared.cursor.Walk.TheVariants.{Root, Below}

-- a row and what is below it
abbrev pub tree_at : List ℕ → ℕ → Forest ℕ
tree_at depths i = node i (children_of depths i) empty

-- of a row: a row that is left out takes one pass; of any other its beginning, what is below it and, where it has children, its end
abbrev pub row_turns : Bool → ℕ → ℕ → Bool → List Turn → List Turn
row_turns left_out i d children below = cond left_out (LeftOut ∷ []) (Begin i d children ∷ (below ++ cond children (End i d ∷ []) []))

-- `left`: the rows that are left out
module _ (left : ℕ → Bool) where
  unfoldable pub turns : ℕ → Forest ℕ → List Turn
  turns d empty = []
  turns d (node i children rest) = row_turns (left i) i d (has_trees children) (turns (suc d) children) ++ turns d rest

-- the events of passes
module _ (node_of : ℕ → Node) (hidden : ℕ → Bool) where
  unfoldable pub events_of : List Turn → List Event
  events_of [] = []
  events_of (Begin i d children ∷ ts) = event_at node_of hidden i children d false ∷ events_of ts
  events_of (End i d ∷ ts) = event_at node_of hidden i true d true ∷ events_of ts
  events_of (LeftOut ∷ ts) = events_of ts

-- what is to be shown: the passes give the walk's events, and their number is its visits
pub record TurnsOfWalk (node_of : ℕ → Node) (hidden : ℕ → Bool) (d : ℕ) (f : Forest ℕ) : Type 0 where
  pub events_are : events node_of hidden d f ≡ events_of node_of hidden (turns (left_out node_of hidden) d f)
  pub visits_are : visits node_of hidden f ≡ length (turns (left_out node_of hidden) d f)

-- two sets of rows that are left out agree at every row that is reached
unfoldable pub Agree : (ℕ → Bool) → (ℕ → Bool) → Forest ℕ → Type 0
Agree left other empty = Unit {0}
Agree left other (node i children rest) = (left i ≡ other i) × (left i ≡ false → Agree left other children) × Agree left other rest

-- ---- where the walk stands

-- the rows that are marked in a list
abbrev pub flagged : List Bool → ℕ → Bool
flagged left i = get_or left i false

module _ (depths : List ℕ) (left : ℕ → Bool) where
  -- with the rows from row k on still to come and the root at depth `base`: below the innermost open row, its end, and then the same of
  -- the rows above it
  unfoldable pub remaining : ℕ → ℕ → List ℕ → List Turn
  remaining base k [] = []
  remaining base k (i ∷ up) =
      turns left (suc (length up)) (forest_from depths k (base + suc (length up))) ++ (End i (length up) ∷ remaining base k up)

  abbrev pub turns_left : Walk → List ℕ → List Turn
  turns_left (Root i) stack = turns left 0 (tree_at depths i)
  turns_left (Below base k n) stack = remaining base k (open_rows stack n)

-- the stack is longer than any depth
pub record ColumnRight (depths : List ℕ) (room : ℕ) : Type 0 where
  pub column : WellFormed depths
  pub deep : (i : ℕ) → i < length depths → get_or depths i 0 < room

-- the stack has room for a walk
abbrev pub Fits : List ℕ → ℕ → Walk → Type 0
Fits depths room (Root i) = i < length depths
Fits depths room (Below base k n) = base + n ≤ room

-- a pass is the first of those that are left, `ts`, and the others are left after it; or none is left
abbrev pub Advances : List ℕ → List Bool → List Turn → Option (Turn × Walk) → List ℕ → Type 0
Advances depths left ts (Some p) stack = (ts ≡ p.0 ∷ turns_left depths (flagged left) p.1 stack) × Fits depths (length stack) p.1
Advances depths left ts None stack = ts ≡ []
