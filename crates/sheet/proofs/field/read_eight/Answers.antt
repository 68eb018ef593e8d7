-- `field::read_eight` meets its contract.
use Rattle.sheet.proofs.EightColumns.{last_low, last_high, last_digit}
use Rattle.sheet.proofs.field.read_eight.Goals as goal

pub returns-then-b-lt48 : goal.returns-then-b-lt48
returns-then-b-lt48 c =
    let a = c.args in
    last_low a.s.now (λ k. (c.type_inv.s k).fits) a.at c.requires _ c.word_at-w.ensures c.if-w-ne9042521604759584.false c.if-b-lt48.true

pub returns-then-b-gt57 : goal.returns-then-b-gt57
returns-then-b-gt57 c =
    let a = c.args in
    last_high a.s.now (λ k. (c.type_inv.s k).fits) a.at c.requires _ c.word_at-w.ensures c.if-w-ne9042521604759584.false c.if-b-lt48.false c.if-b-gt57.true

pub returns : goal.returns
returns c =
    let a = c.args in
    last_digit a.s.now (λ k. (c.type_inv.s k).fits) a.at c.requires _ c.word_at-w.ensures c.if-w-ne9042521604759584.false c.if-b-lt48.false c.if-b-gt57.false
