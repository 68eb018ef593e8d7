-- `names::not_block` meets its contract.
use mathlib.Core.Bool.{not}
use mathlib.Core.Path.{ap}
use native.Mathlib.Omega.{arith}
use Rattle.common.specs.Bytes.{codes}
use Rattle.filters.proofs.NameLaws.{not_block_cell, not_block_outside, not_block_numbered, none_block}
use Rattle.filters.proofs.names.not_block.Goals as goal

pub returns-in-0 : goal.returns-in-0
returns-in-0 c = not_block_outside c.args.name.now c.requires (none_block c.in-0.is) (λ z. omega arith)

pub returns-in-2 : goal.returns-in-2
unfolding codes
returns-in-2 c = not_block_cell c.args.name.now c.requires c.in-2.is (ap not c.same.ensures)

pub returns-in_default : goal.returns-in_default
returns-in_default c = not_block_numbered c.args.name.now c.requires (λ z. omega arith) (λ z. omega arith)
