-- `read::digits_at` meets its contract.
use Prim.Native.Nat.{ℕ}
use mathlib.Core.Path.{refl, sym, ap, ◌∙◌, subst}
use native.Mathlib.Omega.{arith}
use Rattle.common.proofs.Parts.{part_to}
use Rattle.sheet.specs.Columns.{InColumns}
use Rattle.sheet.specs.Lines.{number_at}
use Rattle.sheet.specs.Reading.{plain}
use Rattle.sheet.proofs.DigitLaws.{plain_number, plain_more, plain_end, digits_none, digits_small, digits_room}
use Rattle.sheet.proofs.read.digits_at.Goals as goal

pub eight_digits-requires : goal.eight_digits-requires
eight_digits-requires c =
    let p = c.requires in
    (omega (arith, p.0, c.if-width-eq8.true), subst (λ (w : ℕ). InColumns w c.args.s.now c.args.at) c.if-width-eq8.true p.2)

pub returns-then-width-eq8 : goal.returns-then-width-eq8
returns-then-width-eq8 c = let a = c.args in c.eight_digits.ensures ∙ ap (λ (w : ℕ). number_at w a.s.now a.at) (sym c.if-width-eq8.true)

pub loop-i-init : goal.loop-i-init
loop-i-init c = (omega arith, omega arith, digits_none _, refl)

pub overflow_mul-n : goal.overflow_mul-n
overflow_mul-n c = omega (arith, digits_small _ _ c.loop-i.invariant.2 (omega arith))

pub overflow_add-n : goal.overflow_add-n
overflow_add-n c = omega (arith, digits_small _ _ c.loop-i.invariant.2 (omega arith))

pub loop-i-smaller : goal.loop-i-smaller
loop-i-smaller c = omega arith

pub loop-i-preserved : goal.loop-i-preserved
loop-i-preserved c =
    let p = c.requires in
    let l = c.loop-i in
    (omega arith, omega arith, rw c.from.ensures (digits_room _ _ _ _ l.invariant.2 l.invariant.0), rw c.from.ensures (plain_more _ _ _ p.0 _ c.loop-i-test.true ∙ l.invariant.3))

pub returns : goal.returns
returns c =
    let a = c.args in
    plain_end _ _ _ c.requires.0 _ c.loop-i-test.false ∙ c.loop-i.invariant.3 ∙ ap plain (part_to a.s.now a.at a.width) ∙ plain_number a.width a.s.now a.at c.requires.2
