-- `field::read_field` meets its contract.
use mathlib.Core.Path.{◌∙◌}
use native.Mathlib.Omega.{arith}
use Rattle.sheet.proofs.ReadingColumns.{field_blank, first_low, first_high, first_digit, zero_alone, zero_leading, digit_fits}
use Rattle.sheet.proofs.field.read_field.Goals as goal

pub returns-then-i-end : goal.returns-then-i-end
returns-then-i-end c =
    let a = c.args in
    field_blank a.s.now a.at a.width _ c.requires.0 c.skip_spaces-i.ensures c.if-i-end.true

pub returns-then-b-lt48 : goal.returns-then-b-lt48
returns-then-b-lt48 c =
    let a = c.args in
    first_low a.s.now a.at a.width _ c.requires.0 c.skip_spaces-i.ensures c.if-i-end.false c.if-b-lt48.true

pub returns-then-b-gt57 : goal.returns-then-b-gt57
returns-then-b-gt57 c =
    let a = c.args in
    first_high a.s.now a.at a.width _ c.requires.0 c.skip_spaces-i.ensures c.if-i-end.false c.if-b-lt48.false c.if-b-gt57.true

pub returns-then-next-end : goal.returns-then-next-end
returns-then-next-end c =
    let a = c.args in
    zero_alone a.s.now a.at a.width _ c.requires.0 c.skip_spaces-i.ensures c.if-i-end.false c.if-b-lt48.false c.if-b-gt57.false c.if-b-eq48.true c.if-next-end.true

pub returns-then-b-eq48 : goal.returns-then-b-eq48
returns-then-b-eq48 c =
    let a = c.args in
    zero_leading a.s.now a.at a.width _ c.requires.0 c.skip_spaces-i.ensures c.if-i-end.false c.if-b-lt48.false c.if-b-gt57.false c.if-b-eq48.true c.if-next-end.false

pub more_digits-requires : goal.more_digits-requires
more_digits-requires c =
    let p = c.skip_spaces-i.ensures in
    (omega (arith, p.to, c.if-i-end.false), c.requires.0, omega (arith, p.from, p.to, c.requires.1), omega (arith, c.from.ensures, c.if-b-eq48.false, c.if-b-lt48.false), rw c.from.ensures (digit_fits _ _ c.if-b-gt57.false (omega (arith, p.from, p.to, c.requires.1))))

pub returns : goal.returns
returns c =
    let a = c.args in
    c.more_digits.ensures ∙ rw c.from.ensures (first_digit a.s.now a.at a.width _ c.requires.0 c.skip_spaces-i.ensures c.if-i-end.false c.if-b-lt48.false c.if-b-gt57.false)
