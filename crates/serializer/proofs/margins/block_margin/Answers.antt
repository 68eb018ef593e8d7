-- `block_margin` meets its contract.
use mathlib.Core.Path.{◌∙◌, ap, sym}
use mathlib.Core.Bool.{Bool, cond}
use native.Mathlib.Omega.{arith}
use Rattle.common.proofs.Choice.{by_test}
use Rattle.serializer.proofs.MarginLaws.{block_collapse, block_add, block_none}
use Rattle.writer.proofs.OutLaws.{greater_max}
use Rattle.serializer.proofs.margins.block_margin.Goals as goal

pub returns-then-n : goal.returns-then-n
returns-then-n c = block_collapse _ _ _ c.if-block.true c.if-n.true (c.size.ensures ∙ ap (λ (b : Bool). cond b 2 1) c.is_big.ensures) (c.max.ensures ∙ sym (greater_max _ _))

pub overflow_add-r : goal.overflow_add-r
overflow_add-r c =
    let k = c.size-then-block.ensures in
    by_test c.args.n.big_block (λ e. omega (arith, rw e at k)) (λ e. omega (arith, rw e at k))

pub returns-then-block : goal.returns-then-block
returns-then-block c = block_add _ _ _ c.if-block.true c.if-n.false c.size-then-block.ensures

pub returns : goal.returns
returns c = block_none _ _ _ c.if-block.false
