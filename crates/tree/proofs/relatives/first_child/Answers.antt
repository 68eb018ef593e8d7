-- `relatives::first_child` meets its contract.
use mathlib.Core.Path.{ap, ◌∙◌}
use native.Mathlib.Omega.{arith}
use Rattle.tree.proofs.Column.{first_child_from, depth_small}
use Rattle.tree.proofs.relatives.first_child.Goals as goal

pub overflow_add-d : goal.overflow_add-d
overflow_add-d c = omega (arith, c.depth_at-d.ensures, depth_small _ _ c.requires.0 _ c.requires.1)

pub returns : goal.returns
returns c = c.scan.ensures ∙ first_child_from _ _ _ c.requires.1 c.depth_at-d.ensures
