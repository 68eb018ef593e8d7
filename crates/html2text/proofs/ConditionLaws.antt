-- The conditions of a page on parents and cells, over its tree.
use Rattle.std.specs.Prelude.{Option, Some}
use mathlib.Core.Path.{◌≡◌, refl}
use mathlib.Core.Bool.{Bool, true, false, ◌||◌}
use Prim.Native.Nat.{ℕ, ◌<◌}
use lib.ListN.{length}
use Rattle.common.proofs.Choice.{absurd_test}
use Rattle.common.proofs.TestLaws.{or_cases, or_mono}
use Rattle.tree.specs.Forest.{Forest, empty, node, has_trees}
use Rattle.tree.specs.Node.{element}
use Rattle.tree.specs.Page.{Page}
use Rattle.tree.specs.Rows.{children_of, first_child_of, next_sibling_of}
use Rattle.tree.proofs.Standing.{Stands, root_stands}
use Rattle.html2text.specs.Demand.{is_cell_node, is_blank_text, LaterSibling, next, after, CellsRight}
use Rattle.html2text.specs.Theorems.{PageRight}
use Rattle.html2text.specs.Walk.{is_comment, tree_of}
use Rattle.html2text.proofs.LostStrip.{Parents, may_follow, Cells}

module _ (p : Page) where
  module _ (right : PageRight p) where
    child_element : (f : Forest ℕ) (i : ℕ) (c : Option ℕ) → Stands p.depths p.root f c i → has_trees f ≡ true
        → (p.node i).kind ≡ element
    child_element empty i c s h = absurd_test h refl
    child_element (node j children rest) i c s h = right.parent i j s.1.inside s.1.parent

    parents_of : (f : Forest ℕ) (c : Option ℕ) (q : ℕ) → Stands p.depths p.root f c q → Parents p.node f
    parents_of empty c q s = tt
    parents_of (node i children rest) c q s = (
      child_element children i (first_child_of p.depths i) s.2,
      parents_of children (first_child_of p.depths i) i s.2,
      parents_of rest (next_sibling_of p.depths i) q s.3,
    )

    pub page_parents : Parents p.node (tree_of p)
    page_parents =
        let s = root_stands p.depths p.root in
        let f = children_of p.depths p.root in
        let c = first_child_of p.depths p.root in
        (child_element f p.root c s, parents_of f c p.root s, tt)

  module _ (hidden : ℕ → Bool) (marks : (i : ℕ) → p.marked i ≡ true → hidden i ≡ true) (cells : CellsRight p) where
    follows : (i j : ℕ) → i < length p.depths → is_cell_node (p.node i) ≡ true → LaterSibling p.depths i j
        → may_follow p.node hidden j ≡ true
    follows i j h e l =
        or_mono (is_cell_node (p.node j)) _ (is_cell_node (p.node j)) _ (λ t. t)
        (or_mono (is_comment (p.node j).kind) _ (is_comment (p.node j).kind) _ (λ t. t)
        (or_mono (is_blank_text (p.node j)) (p.marked j) (is_blank_text (p.node j)) (hidden j) (λ t. t) (marks j)))
        (cells.later i j h e l)

    -- a cell that the first row of c stands behind
    record Behind (c : Option ℕ) : Type 0 where
      row : ℕ
      inside : row < length p.depths
      is_cell : is_cell_node (p.node row) ≡ true
      later : (j : ℕ) → c ≡ Some j → LaterSibling p.depths row j

    cells_of : (f : Forest ℕ) (c : Option ℕ) (q : ℕ) (before : Bool) → Stands p.depths p.root f c q → (before ≡ true → Behind c)
        → Cells p.node hidden before f
    cells_of empty c q before s b = tt
    cells_of (node i children rest) c q before s b = (
      (λ e. let x = b e in follows x.row i x.inside x.is_cell (x.later i s.0)),
      cells_of children (first_child_of p.depths i) i false s.2 (λ e. absurd_test e refl),
      cells_of rest (next_sibling_of p.depths i) q (before || is_cell_node (p.node i)) s.3
          (or_cases before (is_cell_node (p.node i))
          (λ e.
          let x = b e in
          record { row = x.row; inside = x.inside; is_cell = x.is_cell; later = λ j h. after (x.later i s.0) h })
          (λ e. record { row = i; inside = s.1.inside; is_cell = e; later = λ j h. next h })),
    )

    pub page_cells : Cells p.node hidden false (tree_of p)
    page_cells = (
      (λ e. absurd_test e refl),
      cells_of (children_of p.depths p.root) (first_child_of p.depths p.root) p.root false
          (root_stands p.depths p.root) (λ e. absurd_test e refl),
      tt,
    )
