-- `notes::read_nodes` meets its contract.
use mathlib.Core.Path.{refl, sym, ◌∙◌}
use native.Mathlib.Omega.{arith}
use Rattle.sheet.proofs.LayoutLaws.{node_fits, pool_start_law, pool_part, pool_whole}
use Rattle.sheet.proofs.NodePass.{nodes_start, nodes_bad, nodes_more, nodes_end, count_small}
use Rattle.sheet.proofs.notes.read_nodes.Goals as goal

pub overflow_sub-start : goal.overflow_sub-start
overflow_sub-start c = omega (arith, c.requires.0.size)

pub overflow_mul-step : goal.overflow_mul-step
overflow_mul-step c = omega (arith, c.requires.0.width)

pub overflow_add-step : goal.overflow_add-step
overflow_add-step c = omega (arith, c.requires.0.width)

pub overflow_mul-at : goal.overflow_mul-at
overflow_mul-at c = omega (arith, c.requires.0.width)

pub overflow_add-at : goal.overflow_add-at
overflow_add-at c = omega (arith, c.requires.0.width)

pub loop-i-init : goal.loop-i-init
loop-i-init c = nodes_start _ _ _

pub read_node_line-requires : goal.read_node_line-requires
read_node_line-requires c =
    let l = c.loop-i in
    let sized = c.requires.0 in
    (omega (arith, l.invariant.place, node_fits sized l.i c.loop-i-test.true), omega (arith, sized.width))

pub returns-in_default : goal.returns-in_default
returns-in_default c = nodes_bad _ _ c.requires.0 c.loop-i.invariant c.loop-i-test.true (sym c.read_node_line.ensures ∙ c.in_default.is)

pub note_row-n-requires : goal.note_row-n-requires
note_row-n-requires c =
    let l = c.loop-i in
    let p = c.requires in
    (pool_whole _ c.args.l (pool_start_law p.0) p.1, omega (arith, l.invariant.small, l.invariant.within, p.0.nodes, count_small _ _ p.0 l.invariant c.loop-i-test.true (sym c.read_node_line.ensures ∙ c.in-Some.is)))

pub overflow_add-at-in-loop-i : goal.overflow_add-at-in-loop-i
overflow_add-at-in-loop-i c = let l = c.loop-i in omega (arith, l.invariant.place, node_fits c.requires.0 l.i c.loop-i-test.true)

pub loop-i-smaller : goal.loop-i-smaller
loop-i-smaller c = omega (arith, c.loop-i-test.true)

pub loop-i-preserved : goal.loop-i-preserved
loop-i-preserved c =
    let sized = c.requires.0 in
    nodes_more _ _ sized c.loop-i.invariant c.loop-i-test.true (sym c.read_node_line.ensures ∙ c.in-Some.is) (pool_part _ c.args.l (pool_start_law sized)) c.note_row-n.ensures refl

pub returns : goal.returns
returns c = nodes_end _ _ c.loop-i.invariant c.loop-i-test.false
