-- `relatives::next_sibling` meets its contract.
use mathlib.Core.Path.{ap, ◌∙◌}
use Rattle.tree.proofs.Column.{next_sibling_from}
use Rattle.tree.proofs.relatives.next_sibling.Goals as goal

pub returns : goal.returns
returns c = c.scan.ensures ∙ next_sibling_from _ _ _ c.requires.1 c.depth_at-d.ensures
