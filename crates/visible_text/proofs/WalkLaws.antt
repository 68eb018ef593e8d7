-- The walk over rows that stand beside each other, row by row.
use mathlib.Core.Path.{◌≡◌, refl}
use mathlib.Core.Bool.{true, false}
use Prim.Native.Nat.{ℕ}
use Rattle.tree.specs.Forest.{Forest, node, has_trees}
use Rattle.tree.specs.Node.{Node}
use Rattle.writer.specs.Out.{Out}
use Rattle.visible_text.specs.VisibleText.{begin, enters, end, walk}

module _ (node_of : ℕ → Node) where
  -- what is below a row, where the walk goes there
  unfoldable pub within : ℕ → Forest ℕ → Out → Out
  within i children o = elim (enters node_of i) [ true ↦ walk node_of children o | false ↦ o ]

  -- and behind it: its later siblings, or its end
  unfoldable pub behind : ℕ → Forest ℕ → Out → Out
  behind i rest o = elim (has_trees rest) [ true ↦ walk node_of rest o | false ↦ end node_of i o ]

  module _ (i : ℕ) where
    pub walk_row : (children rest : Forest ℕ) (o : Out)
        → walk node_of (node i children rest) o ≡ behind i rest (within i children (begin node_of i children o))
    unfolding walk within behind
    walk_row children rest o = refl

    pub within_entered : enters node_of i ≡ true → (children : Forest ℕ) (o : Out) → within i children o ≡ walk node_of children o
    unfolding within
    within_entered e children o = rw (e, within)

    pub within_passed : enters node_of i ≡ false → (children : Forest ℕ) (o : Out) → within i children o ≡ o
    unfolding within
    within_passed e children o = rw (e, within)
