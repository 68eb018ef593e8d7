-- `field::skip_spaces` meets its contract.
use Prim.Native.Nat.{ℕ, ◌-◌}
use mathlib.Core.Path.{◌≡◌, refl, subst, ◌∙◌}
use lib.ListN.{take, drop}
use Rattle.sheet.specs.Columns.{Blank, columns_from}
use native.Mathlib.Omega.{arith}
use Rattle.sheet.proofs.ReadingColumns.{space_more}
use Rattle.sheet.proofs.field.skip_spaces.Goals as goal

pub loop-i-init : goal.loop-i-init
loop-i-init c = (omega arith, c.requires.0, refl)

pub returns-then-s-i-ne32 : goal.returns-then-s-i-ne32
returns-then-s-i-ne32 c =
    let l = c.loop-i in
    record { from = l.invariant.0; to = l.invariant.1; left = l.invariant.2; no_space = λ h. c.if-s-i-ne32.true }

pub loop-i-smaller : goal.loop-i-smaller
loop-i-smaller c = omega arith

pub loop-i-preserved : goal.loop-i-preserved
loop-i-preserved c = (omega arith, omega arith, space_more _ _ _ c.requires.1 c.loop-i-test.true c.if-s-i-ne32.false ∙ c.loop-i.invariant.2)

pub returns : goal.returns
returns c =
    let l = c.loop-i in
    let e : l.i ≡ c.args.end = omega arith in
    record { from = omega arith; to = omega arith; left = subst (λ (k : ℕ). columns_from Blank (take (c.args.end - k) (drop k c.args.s.now)) ≡ columns_from Blank (take (c.args.end - c.args.at) (drop c.args.at c.args.s.now))) e l.invariant.2; no_space = λ h. absurd (omega arith) }
