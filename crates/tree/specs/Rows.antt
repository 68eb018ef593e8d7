-- The forest of a list of rows with their depths, and the searches of a depth column (document 01, "The sheet").
use Rattle.std.specs.Prelude.{◌≡◌, Bool, true, false, ◌&&◌, List, [], ◌∷◌, map, ℕ, zero, suc, ◌≤◌, ◌<◌, ltb, eqb, length, get_or, drop, Option, None, Some}
use Rattle.tree.specs.Forest.{Forest, empty, node}

-- The depth column of an accepted sheet, by refusal 14: "row 0 is not an element named body at depth 0 ..; a later depth is 0, above 500 or more than one above the row before".
-- The bound `most_depth` is not needed here.
pub record WellFormed (depths : List ℕ) : Type 0 where
  pub row : 0 < length depths
  pub root : get_or depths 0 0 ≡ 0
  pub later : (i : ℕ) → suc i < length depths → 1 ≤ get_or depths (suc i) 0
  pub step : (i : ℕ) → suc i < length depths → get_or depths (suc i) 0 ≤ suc (get_or depths i 0)

-- of rows that are given with their depths, the depths
abbrev pub depths_of : {A : Type 0} → List (ℕ × A) → List ℕ
depths_of rows = map (λ r. r.0) rows

-- the trees at depth d that begin in the list: rows that are deeper are passed over, and one that is less deep ends them
unfoldable pub build : {A : Type 0} → List (ℕ × A) → ℕ → Forest A
build [] d = empty
build (r ∷ l) d =
    elim (ltb d r.0) [ true ↦ build l d | false ↦ elim (ltb r.0 d) [ true ↦ empty | false ↦ node r.1 (build l (suc d)) (build l d) ] ]

-- the rows of a depth column by their numbers, from j on
unfoldable pub numbered : ℕ → List ℕ → List (ℕ × ℕ)
numbered j [] = []
numbered j (x ∷ depths) = (x, j) ∷ numbered (suc j) depths

-- the trees at depth d that begin at row k or later
abbrev pub forest_from : List ℕ → ℕ → ℕ → Forest ℕ
forest_from depths k d = build (numbered k (drop k depths)) d

-- what stands below row i
abbrev pub children_of : List ℕ → ℕ → Forest ℕ
children_of depths i = forest_from depths (suc i) (suc (get_or depths i 0))

-- the forest of the row numbers
abbrev pub forest_of : List ℕ → Forest ℕ
forest_of depths = build (numbered 0 depths) 0

-- there is a row k, and it stands at depth d
unfoldable pub stands_at : List ℕ → ℕ → ℕ → Bool
stands_at depths k d = ltb k (length depths) && eqb (get_or depths k 0) d

-- n row numbers from i on
unfoldable pub rows_from : ℕ → ℕ → List ℕ
rows_from i zero = []
rows_from i (suc n) = i ∷ rows_from (suc i) n

-- the first row at depth d, before any that is less deep; j is the number of the list's first row
unfoldable pub scan_of : ℕ → ℕ → List ℕ → Option ℕ
scan_of d j [] = None
scan_of d j (x ∷ depths) = elim (ltb x d) [ true ↦ None | false ↦ elim (eqb x d) [ true ↦ Some j | false ↦ scan_of d (suc j) depths ] ]

abbrev pub first_child_of : List ℕ → ℕ → Option ℕ
first_child_of depths i = scan_of (suc (get_or depths i 0)) (suc i) (drop (suc i) depths)

abbrev pub next_sibling_of : List ℕ → ℕ → Option ℕ
next_sibling_of depths i = scan_of (get_or depths i 0) (suc i) (drop (suc i) depths)

-- the first row that is not deeper than d, or the row past the last; j is the number of the list's first row
unfoldable pub past_from : ℕ → ℕ → List ℕ → ℕ
past_from d j [] = j
past_from d j (x ∷ depths) = elim (ltb d x) [ true ↦ past_from d (suc j) depths | false ↦ j ]

-- the first row past row i and all below it
abbrev pub past_of : List ℕ → ℕ → ℕ
past_of depths i = past_from (get_or depths i 0) (suc i) (drop (suc i) depths)

-- what is kept of the open rows, innermost first, in a stack that holds n
unfoldable pub open_rows : List ℕ → ℕ → List ℕ
open_rows stack zero = []
open_rows stack (suc n) = get_or stack n 0 ∷ open_rows stack n
