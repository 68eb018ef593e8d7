-- `attributes::attributes_from` meets its contract.
use mathlib.Core.Path.{sym, ◌∙◌}
use native.Mathlib.Omega.{arith}
use Rattle.tree.proofs.AttributeLines.{counts_next, counts_fit, counts_none, counts_at}
use Rattle.tree.proofs.attributes.attributes_from.Goals as goal

pub loop-j-init : goal.loop-j-init
loop-j-init c = (omega arith, sym (counts_none _ _))

pub row_at-r-requires : goal.row_at-r-requires
row_at-r-requires c = (c.requires.0.lined, omega arith)

pub overflow_add-n : goal.overflow_add-n
overflow_add-n c =
    let l = c.loop-j in
    omega (arith, l.invariant.1, counts_fit _ _ c.requires.0 l.j (omega arith) c.row_at-r.ensures, c.requires.0.sized.attributes)

pub loop-j-smaller : goal.loop-j-smaller
loop-j-smaller c = omega arith

pub loop-j-preserved : goal.loop-j-preserved
loop-j-preserved c =
    let l = c.loop-j in
    (omega arith, omega (arith, l.invariant.1, counts_next _ _ l.j c.row_at-r.ensures))

pub returns : goal.returns
returns c = c.loop-j.invariant.1 ∙ counts_at _ _ (omega arith)
