-- `pass_tails` meets its contract.
use mathlib.Core.Path.{sym, ◌∙◌}
use Prim.Native.Nat.{◌-◌, ◌<◌}
use native.Mathlib.Omega.{arith}
use lib.ListN.{length}
use Rattle.utf8.proofs.Reading.{pass_cut, pass_one, pass_second, pass_two, pass_third, pass_three, pass_fourth, pass_four}
use Rattle.utf8.proofs.pass_tails.Goals as goal

pub returns-then-s-i : goal.returns-then-s-i
returns-then-s-i c = pass_cut _ _ _ _ _ c.requires.0 c.requires.2 (omega (arith, c.from.ensures, c.if-s-i.true))

pub returns-then-e-eq0 : goal.returns-then-e-eq0
returns-then-e-eq0 c = pass_one _ _ _ _ _ c.requires.0 c.requires.2 c.if-e-eq0.true

pub returns-then-not-is_second : goal.returns-then-not-is_second
returns-then-not-is_second c =
    let long : c.args.e.count < length c.args.s.now - c.args.i = omega (arith, c.from.ensures, c.if-s-i.false) in
    pass_second _ _ _ _ _ c.requires.0 c.requires.2 long c.if-e-eq0.false
    (sym c.is_second.ensures ∙ c.if-not-is_second.true)

pub returns-then-e-eq1 : goal.returns-then-e-eq1
returns-then-e-eq1 c =
    let long : c.args.e.count < length c.args.s.now - c.args.i = omega (arith, c.from.ensures, c.if-s-i.false) in
    pass_two _ _ _ _ _ c.requires.0 c.requires.2 long c.if-e-eq0.false
    (sym c.is_second.ensures ∙ c.if-not-is_second.false) c.if-e-eq1.true

pub returns-then-not-is_tail : goal.returns-then-not-is_tail
returns-then-not-is_tail c =
    let long : c.args.e.count < length c.args.s.now - c.args.i = omega (arith, c.from.ensures, c.if-s-i.false) in
    pass_third _ _ _ _ _ c.requires.0 c.requires.2 long c.if-e-eq0.false
    (sym c.is_second.ensures ∙ c.if-not-is_second.false) c.if-e-eq1.false (sym c.is_tail.ensures ∙ c.if-not-is_tail.true)

pub returns-then-e-eq2 : goal.returns-then-e-eq2
returns-then-e-eq2 c =
    let long : c.args.e.count < length c.args.s.now - c.args.i = omega (arith, c.from.ensures, c.if-s-i.false) in
    pass_three _ _ _ _ _ c.requires.0 c.requires.2 long c.if-e-eq0.false
    (sym c.is_second.ensures ∙ c.if-not-is_second.false) c.if-e-eq1.false (sym c.is_tail.ensures ∙ c.if-not-is_tail.false) c.if-e-eq2.true

pub returns-then-not-is_tail-2 : goal.returns-then-not-is_tail-2
returns-then-not-is_tail-2 c =
    let long : c.args.e.count < length c.args.s.now - c.args.i = omega (arith, c.from.ensures, c.if-s-i.false) in
    pass_fourth _ _ _ _ _ c.requires.0 c.requires.2 long c.if-e-eq0.false
    (sym c.is_second.ensures ∙ c.if-not-is_second.false) c.if-e-eq1.false (sym c.is_tail.ensures ∙ c.if-not-is_tail.false) c.if-e-eq2.false (sym c.is_tail-2.ensures ∙ c.if-not-is_tail-2.true)

pub returns : goal.returns
returns c =
    let long : c.args.e.count < length c.args.s.now - c.args.i = omega (arith, c.from.ensures, c.if-s-i.false) in
    pass_four _ _ _ _ _ c.requires.0 c.requires.2 long c.if-e-eq0.false
    (sym c.is_second.ensures ∙ c.if-not-is_second.false) c.if-e-eq1.false (sym c.is_tail.ensures ∙ c.if-not-is_tail.false) c.if-e-eq2.false (sym c.is_tail-2.ensures ∙ c.if-not-is_tail-2.false) c.requires.1
