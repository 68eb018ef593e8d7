-- `leading` meets its contract.
use mathlib.Core.Path.{refl, ap, ◌∙◌}
use native.Mathlib.Omega.{arith}
use Rattle.common.proofs.Parts.{part_from}
use Rattle.visible_text.specs.WhiteSpace.{white_length}
use Rattle.visible_text.proofs.WhiteTests.{leading_fits, leading_more, leading_stop, leading_end}
use Rattle.visible_text.proofs.white_space.leading.Goals as goal

pub loop-i-init : goal.loop-i-init
loop-i-init c = (omega arith, refl)

pub returns-then-n-eq0 : goal.returns-then-n-eq0
returns-then-n-eq0 c =
    let l = c.loop-i in
    let n_is = c.white_len-n.ensures ∙ ap white_length (part_from c.args.s.now l.i) in
    (l.invariant.0, leading_stop _ l.i n_is c.if-n-eq0.true l.invariant.1)

pub overflow_add-i : goal.overflow_add-i
overflow_add-i c =
    let n_is = c.white_len-n.ensures ∙ ap white_length (part_from c.args.s.now c.loop-i.i) in
    omega (arith, leading_fits _ _ n_is c.loop-i.invariant.0)

pub loop-i-smaller : goal.loop-i-smaller
loop-i-smaller c = omega (arith, c.loop-i-test.true, c.if-n-eq0.false)

pub loop-i-preserved : goal.loop-i-preserved
loop-i-preserved c =
    let inv = c.loop-i.invariant in
    let n_is = c.white_len-n.ensures ∙ ap white_length (part_from c.args.s.now c.loop-i.i) in
    (leading_fits _ _ n_is inv.0, leading_more _ _ n_is inv.1)

pub returns : goal.returns
returns c = (c.loop-i.invariant.0, leading_end _ _ c.loop-i-test.false c.loop-i.invariant.1)
