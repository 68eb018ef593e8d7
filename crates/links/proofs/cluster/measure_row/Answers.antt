-- `cluster::measure_row` meets its contract.
use Rattle.std.proofs.Common.{◌∙◌}
use Rattle.tree.proofs.TextLengths.{length_small}
use Rattle.links.proofs.ClusterLaws.{measure_counts}
use Rattle.links.proofs.cluster.measure_row.Goals as goal

pub returns : goal.returns
returns c = c.measured.ensures ∙ measure_counts c.args.rule (rw c.most_of.ensures at c.count_up_to-c.ensures) (length_small c.requires.0 _ c.requires.1)
