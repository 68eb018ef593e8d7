-- `field::more_digits` meets its contract.
use mathlib.Core.Path.{refl, ap, ◌∙◌}
use native.Mathlib.Omega.{arith}
use Rattle.sheet.specs.Columns.{finish}
use Rattle.sheet.proofs.ReadingColumns.{digit_low, digit_high, digit_more, digit_small, digit_room, digits_done}
use Rattle.sheet.proofs.field.more_digits.Goals as goal

pub loop-i-init : goal.loop-i-init
loop-i-init c = (omega arith, c.requires.0, c.requires.3, c.requires.4, refl)

pub returns-then-b-lt48 : goal.returns-then-b-lt48
returns-then-b-lt48 c =
    let l = c.loop-i in
    digit_low _ _ _ c.requires.1 _ l.invariant.2 c.loop-i-test.true c.if-b-lt48.true ∙ ap finish l.invariant.4

pub returns-then-b-gt57 : goal.returns-then-b-gt57
returns-then-b-gt57 c =
    let l = c.loop-i in
    digit_high _ _ _ c.requires.1 _ l.invariant.2 c.loop-i-test.true c.if-b-lt48.false c.if-b-gt57.true ∙ ap finish l.invariant.4

pub overflow_mul-n : goal.overflow_mul-n
overflow_mul-n c =
    let a = c.args in
    let l = c.loop-i in
    omega (arith, digit_small a.s.now _ _ c.requires.1 _ l.invariant.2 c.loop-i-test.true l.invariant.3)

pub overflow_add-n : goal.overflow_add-n
overflow_add-n c =
    let a = c.args in
    let l = c.loop-i in
    omega (arith, digit_small a.s.now _ _ c.requires.1 _ l.invariant.2 c.loop-i-test.true l.invariant.3)

pub loop-i-smaller : goal.loop-i-smaller
loop-i-smaller c = omega arith

pub loop-i-preserved : goal.loop-i-preserved
loop-i-preserved c =
    let a = c.args in
    let l = c.loop-i in (
      omega arith,
      omega arith,
      omega arith,
      rw c.from.ensures (digit_room a.s.now _ _ c.requires.1 _ l.invariant.2 c.loop-i-test.true (omega arith) l.invariant.3 c.if-b-gt57.false),
      rw c.from.ensures (digit_more a.s.now _ _ c.requires.1 _ l.invariant.2 c.loop-i-test.true c.if-b-lt48.false c.if-b-gt57.false ∙ l.invariant.4),
    )

pub returns : goal.returns
returns c = digits_done _ _ _ c.requires.1 _ c.loop-i-test.false ∙ ap finish c.loop-i.invariant.4
