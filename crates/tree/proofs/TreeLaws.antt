-- The tree of a well-formed depth column: the theorem that specs/Tree.antt states.
use Rattle.std.specs.Prelude.{Option, None}
use mathlib.Core.Path.{◌≡◌, refl, sym, ap, ◌∙◌}
use mathlib.Core.List.{List, [], ◌∷◌}
use Prim.Native.Nat.{ℕ, suc, ◌+◌, ◌<◌}
use native.Mathlib.Numerals.{add-one}
use native.Mathlib.Omega.{arith}
use lib.ListN.{length, get_or, drop}
use Rattle.tree.specs.Forest.{Forest, empty, node, preorder, first, Place}
use Rattle.tree.specs.Node.{element, Node}
use Rattle.tree.specs.Rows.{WellFormed, build, numbered, forest_of}
use Rattle.tree.specs.TextContent.{concatenated, descendant_text, text_content}
use Rattle.tree.specs.Tree.{RowOf, TreeOfColumn}
use Rattle.tree.proofs.Descendants.{descendants, descendant_is}
use Rattle.tree.proofs.Left.{left_head, left_tail, left_inside}
use Rattle.tree.proofs.Order.{build_here, build_deeper}
use Rattle.tree.proofs.Places.{scan_first, place_is, tree_of_numbered, each_row}
use Rattle.tree.proofs.TextLaws.{text_of_element, text_below}

-- behind row 0 no tree stands at depth 0
no_other_root : (depths : List ℕ) → WellFormed depths → (k : ℕ) (l : List ℕ) → l ≡ drop (suc k) depths → build (numbered (suc k) l) 0 ≡ empty
unfolding build numbered
no_other_root depths w k [] e = refl
no_other_root depths w k (x ∷ l) e =
    let deep : 0 < x = omega (arith, left_head depths (suc k) x l e 0, w.later k (left_inside depths (suc k) x l e)) in
    build_deeper (x, suc k) (numbered (suc (suc k)) l) 0 deep ∙ no_other_root depths w (suc k) l (left_tail depths (suc k) x l e)

one_root : (depths : List ℕ) → WellFormed depths → (children : Forest ℕ) × (forest_of depths ≡ node 0 children empty)
unfolding numbered
one_root [] w = absurd (omega (arith, w.row))
one_root (x ∷ l) w =
    (build (numbered 1 l) 1, build_here (x, 0) (numbered 1 l) 0 w.root ∙ ap (λ (rest : Forest ℕ). node 0 (build (numbered 1 l) 1) rest) (no_other_root (x ∷ l) w 0 l refl))

row_of : (depths : List ℕ) → WellFormed depths → (j : ℕ) → j < length depths → RowOf depths (forest_of depths) j
row_of depths w j h =
    let d = get_or depths j 0 in
    let l = drop (suc j) depths in
    let s = each_row depths w j h in
    let p = place_is depths s.parent j s.children s.rest s.place in
    let below = ap preorder p.children_are ∙ descendants depths w j in
    record {
      parent = s.parent;
      children = s.children;
      rest = s.rest;
      place = s.place;
      only = λ q cs rs v. let o = place_is depths q j cs rs v in (o.parent_is ∙ sym p.parent_is, o.children_are ∙ sym p.children_are, o.rest_is ∙ sym p.rest_is);
      children_are = p.children_are;
      parent_is = p.parent_is;
      first_child_is = ap first p.children_are ∙ scan_first (suc d) (suc j) l;
      next_sibling_is = ap first p.rest_is ∙ scan_first d (suc j) l;
      descendant_is = descendant_is depths w j h;
      descendants_are = below;
      text_is = λ node_of e. text_of_element node_of j s.children e ∙ ap (concatenated node_of) below;
    }

pub tree_of_column : (depths : List ℕ) → WellFormed depths → TreeOfColumn depths
tree_of_column depths w = record { tree = tree_of_numbered depths w; root = one_root depths w; row = row_of depths w }

-- the text of an element at its place, as a loop gathers it
pub text_at_place : (depths : List ℕ) → WellFormed depths → (node_of : ℕ → Node) (q : Option ℕ) (j : ℕ) (children rest : Forest ℕ)
    → Place None (forest_of depths) q j children rest → (node_of j).kind ≡ element → text_content node_of j children ≡ text_below node_of depths (get_or depths j 0) (j + 1)
text_at_place depths w node_of q j children rest v e =
    text_of_element node_of j children e
    ∙ ap (descendant_text node_of) (place_is depths q j children rest v).children_are
    ∙ ap (concatenated node_of) (descendants depths w j)
    ∙ simp add-one
