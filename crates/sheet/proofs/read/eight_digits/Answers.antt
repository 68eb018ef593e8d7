-- `read::eight_digits` meets its contract.
use mathlib.Core.Path.{ap}
use Rattle.sheet.specs.Lines.{field_at, number_in}
use Rattle.sheet.proofs.EightColumns.{last_low, last_high, last_digit}
use Rattle.sheet.proofs.read.eight_digits.Goals as goal

pub returns-then-b-lt48 : goal.returns-then-b-lt48
unfolding field_at
returns-then-b-lt48 c =
    let a = c.args in
    ap number_in (last_low a.s.now (λ k. (c.type_inv.s k).fits) a.at c.requires.0 _ c.word_at-w.ensures c.if-w-ne9042521604759584.false c.if-b-lt48.true)

pub returns-then-b-gt57 : goal.returns-then-b-gt57
unfolding field_at
returns-then-b-gt57 c =
    let a = c.args in
    ap number_in (last_high a.s.now (λ k. (c.type_inv.s k).fits) a.at c.requires.0 _ c.word_at-w.ensures c.if-w-ne9042521604759584.false c.if-b-lt48.false c.if-b-gt57.true)

pub returns : goal.returns
unfolding field_at
returns c =
    let a = c.args in
    ap number_in (last_digit a.s.now (λ k. (c.type_inv.s k).fits) a.at c.requires.0 _ c.word_at-w.ensures c.if-w-ne9042521604759584.false c.if-b-lt48.false c.if-b-gt57.false)
