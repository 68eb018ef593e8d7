-- What holds of every event of the walk.
use Rattle.std.specs.Prelude.{Option}
use mathlib.Core.Bool.{Bool, true, false, cond}
use mathlib.Core.List.{List, [], ◌∷◌, ◌++◌}
use Prim.Native.Nat.{ℕ, suc, ◌<◌}
use lib.ListN.{length}
use Rattle.tree.specs.Forest.{Forest, empty, node, has_trees}
use Rattle.tree.specs.Page.{Page}
use Rattle.tree.specs.Rows.{children_of, first_child_of, next_sibling_of}
use Rattle.tree.proofs.Standing.{Stands, root_stands}
use Rattle.html2text.specs.Bounds.{Each}
use Rattle.html2text.specs.Collect.{Event}
use Rattle.html2text.specs.Walk.{left_out, event_at, events, tree_of}

module _ (P : Event → Type 0) where
  -- events one after the other
  each_append : (es fs : List Event) → Each P es → Each P fs → Each P (es ++ fs)
  each_append [] fs a b = b
  each_append (e ∷ es) fs a b = (a.0, each_append es fs a.1 b)

  -- a row's events, those below it and those behind it
  each_row : (left children : Bool) (begin end : Event) (below rest : List Event) → P begin → P end → Each P below → Each P rest
      → Each P (cond left [] (begin ∷ (below ++ cond children (end ∷ []) [])) ++ rest)
  each_row true children begin end below rest a b h k = k
  each_row false true begin end below rest a b h k = (a, each_append (below ++ end ∷ []) rest (each_append below (end ∷ []) h (b, tt)) k)
  each_row false false begin end below rest a b h k = (a, each_append (below ++ []) rest (each_append below [] h tt) k)

-- what holds of the events of every row of the column holds of all events below the root
module _ (p : Page) (hidden : ℕ → Bool) (P : Event → Type 0)
    (each : (i : ℕ) → i < length p.depths → (children : Bool) (d : ℕ) (end : Bool) → P (event_at p.node hidden i children d end)) where
  below_each : (d : ℕ) (f : Forest ℕ) (c : Option ℕ) (q : ℕ) → Stands p.depths p.root f c q → Each P (events p.node hidden d f)
  unfolding events
  below_each d empty c q st = tt
  below_each d (node i children rest) c q st =
      each_row P (left_out p.node hidden i) (has_trees children)
      (event_at p.node hidden i (has_trees children) d false) (event_at p.node hidden i true d true)
      (events p.node hidden (suc d) children) (events p.node hidden d rest)
      (each i st.1.inside (has_trees children) d false) (each i st.1.inside true d true)
      (below_each (suc d) children (first_child_of p.depths i) i st.2) (below_each d rest (next_sibling_of p.depths i) q st.3)

  pub tree_each : p.root < length p.depths → Each P (events p.node hidden 0 (tree_of p))
  unfolding events
  tree_each h =
      let i = p.root in
      let f = children_of p.depths i in
      each_row P (left_out p.node hidden i) (has_trees f)
      (event_at p.node hidden i (has_trees f) 0 false) (event_at p.node hidden i true 0 true)
      (events p.node hidden 1 f) [] (each i h (has_trees f) 0 false) (each i h true 0 true)
      (below_each 1 f (first_child_of p.depths i) i (root_stands p.depths i)) tt
