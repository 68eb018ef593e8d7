-- The column of depths of an accepted sheet is well formed, so that all that is shown of such columns holds of it.
use mathlib.Core.Path.{◌≡◌, refl, sym, ap, ◌∙◌, subst}
use Prim.Native.Nat.{ℕ, suc, ◌≤◌, ◌<◌}
use native.Mathlib.Omega.{arith}
use lib.ListN.{length, get_or}
use Rattle.common.specs.Bytes.{Bytes}
use Rattle.sheet.specs.Accepted.{Accepted}
use Rattle.sheet.specs.Layout.{depths}
use Rattle.sheet.specs.declared.line.Layout.{Layout}
use Rattle.sheet.proofs.LayoutLaws.{depths_at, depths_from_length}
use Rattle.tree.specs.Rows.{WellFormed}

module _ {s : Bytes} {l : Layout} (accepted : Accepted s l) where
  pub rows : length (depths s l) ≡ l.nodes
  rows = depths_from_length s l 0 l.nodes

  pub well_formed : WellFormed (depths s l)
  well_formed =
      record {
        row = omega (arith, rows, accepted.sized.some_node);
        root = depths_at s l 0 accepted.sized.some_node ∙ accepted.body_depth;
        later = λ i h. let k : suc i < l.nodes = omega (arith, rows) in omega (arith, depths_at s l (suc i) k, (accepted.later i k).some_depth);
        step = λ i h.
            let k : suc i < l.nodes = omega (arith, rows) in
            omega (arith, depths_at s l (suc i) k, depths_at s l i (omega arith), (accepted.later i k).no_jump);
      }
