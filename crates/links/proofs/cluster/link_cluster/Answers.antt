-- `cluster::link_cluster` meets its contract.
use Rattle.std.proofs.Common.{ap, ◌∙◌, ne_eqb}
use Rattle.sheet.specs.Layout.{depths}
use Rattle.tree.specs.Page.{node_at}
use Rattle.tree.proofs.PageLaws.{is_element, not_element}
use Rattle.links.specs.Links.{exceeds}
use Rattle.links.proofs.ClusterLaws.{cluster_of_element, cluster_of_other}
use Rattle.links.proofs.cluster.link_cluster.Goals as goal

pub returns-else-r-eq1 : goal.returns-else-r-eq1
returns-else-r-eq1 c =
    let a = c.args in
    ne_eqb _ _ c.if-r-eq1.false
    ∙ cluster_of_other a.rule (node_at a.s.now a.l) (depths a.s.now a.l) a.i (not_element _ _ _ c.row_at-r.ensures c.if-r-eq1.false)

pub returns-then-r-eq1 : goal.returns-then-r-eq1
returns-then-r-eq1 c =
    let a = c.args in
    c.exceeds.ensures ∙ ap (exceeds a.rule) c.measure_row.ensures
    ∙ cluster_of_element a.rule (node_at a.s.now a.l) (depths a.s.now a.l) a.i (is_element _ _ _ c.row_at-r.ensures c.if-r-eq1.true)
