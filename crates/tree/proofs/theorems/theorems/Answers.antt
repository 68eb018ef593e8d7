-- `theorems` meets its contract.
use Rattle.tree.proofs.NodeLaws.{attribute_by_name}
use Rattle.tree.proofs.PastLaws.{sibling_past}
use Rattle.tree.proofs.SheetLaws.{range_is_value, sheet_is_tree}
use Rattle.tree.proofs.TreeLaws.{tree_of_column}
use Rattle.tree.proofs.theorems.theorems.Goals as goal

pub returns : goal.returns
returns c = (tree_of_column, sibling_past, attribute_by_name, range_is_value, sheet_is_tree)
