-- `item` meets its contract.
use mathlib.Core.Path.{refl, sym, ◌∙◌}
use native.Mathlib.Omega.{arith}
use Rattle.serializer.proofs.LevelLaws.{item_none, item_bullet, item_end, item_number, last_open, last_small}
use Rattle.serializer.proofs.lists.item.Goals as goal

pub returns-then-number-eq0 : goal.returns-then-number-eq0
returns-then-number-eq0 c = rw c.prefixed.ensures (item_bullet _ _ _ _ (sym c.is_item.ensures ∙ c.if-is_item.true) c.last_number-number.ensures c.if-number-eq0.true refl)

pub overflow_add-number : goal.overflow_add-number
overflow_add-number c = omega (arith, last_small c.last_number-number.ensures c.requires)

pub returns-then-n : goal.returns-then-n
returns-then-n c = rw c.prefixed-then-n.ensures (item_end _ _ _ _ (sym c.is_item.ensures ∙ c.if-is_item.true) c.last_number-number.ensures c.if-number-eq0.false c.if-n.true)

pub overflow_sub-at : goal.overflow_sub-at
overflow_sub-at c = last_open c.args.numbering.now c.args.s.depth c.last_number-number.ensures c.if-number-eq0.false

pub overflow_add-numbering : goal.overflow_add-numbering
overflow_add-numbering c = omega (arith, last_small c.last_number-number.ensures c.requires)

pub bounds-numbering-at : goal.bounds-numbering-at
bounds-numbering-at c = omega (arith, c.requires.within, last_open c.args.numbering.now c.args.s.depth c.last_number-number.ensures c.if-number-eq0.false)

pub overflow_add-number-then-is_item : goal.overflow_add-number-then-is_item
overflow_add-number-then-is_item c = omega (arith, last_small c.last_number-number.ensures c.requires)

pub returns-then-is_item : goal.returns-then-is_item
returns-then-is_item c = rw c.prefixed-then-is_item.ensures (item_number _ _ _ _ (sym c.is_item.ensures ∙ c.if-is_item.true) c.last_number-number.ensures c.if-number-eq0.false c.if-n.false)

pub returns : goal.returns
returns c = item_none _ _ _ _ (sym c.is_item.ensures ∙ c.if-is_item.false)
