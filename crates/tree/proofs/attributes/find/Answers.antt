-- `attributes::find` meets its contract.
use mathlib.Core.Path.{sym, ◌∙◌}
use native.Mathlib.Omega.{arith}
use Rattle.tree.proofs.AttributeLines.{find_start, find_found, find_more, find_end, name_fits}
use Rattle.tree.proofs.attributes.find.Goals as goal

pub loop-j-init : goal.loop-j-init
loop-j-init c = (omega arith, find_start _ _ _ _ _)

pub overflow_add-from : goal.overflow_add-from
overflow_add-from c = omega (arith, c.requires.0.sized.attributes)

pub attribute_at-a-requires : goal.attribute_at-a-requires
attribute_at-a-requires c = (c.requires.0.lined, omega arith)

pub part-requires : goal.part-requires
part-requires c = (c.requires.0.lined, name_fits _ _ c.requires.0 _ (omega arith) c.attribute_at-a.ensures)

pub returns-then-same : goal.returns-then-same
returns-then-same c =
    let l = c.loop-j in
    find_found _ _ _ _ _ _ c.loop-j-test.true c.attribute_at-a.ensures c.part.ensures (sym c.same.ensures ∙ c.if-same.true) ∙ l.invariant.1

pub loop-j-smaller : goal.loop-j-smaller
loop-j-smaller c = omega arith

pub loop-j-preserved : goal.loop-j-preserved
loop-j-preserved c =
    let l = c.loop-j in
    (omega arith, find_more _ _ _ _ _ _ c.loop-j-test.true c.attribute_at-a.ensures c.part.ensures (sym c.same.ensures ∙ c.if-same.false) ∙ l.invariant.1)

pub returns : goal.returns
returns c = find_end _ _ _ _ _ _ c.loop-j-test.false ∙ c.loop-j.invariant.1
