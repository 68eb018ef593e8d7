-- `pack` meets its contract.
use Prim.Native.Nat.{◌-◌}
use native.Mathlib.Omega.{arith}
use Rattle.tags.proofs.PackLaws.{packing_start, packing_room, packing_more, packing_end}
use Rattle.tags.proofs.pack.Goals as goal

pub loop-i-init : goal.loop-i-init
loop-i-init c = packing_start _

pub overflow_mul-v : goal.overflow_mul-v
overflow_mul-v c = omega (arith, packing_room c.loop-i.invariant c.loop-i-test.true c.requires (λ i. omega (arith, c.type_inv.name i)))

pub overflow_add-v : goal.overflow_add-v
overflow_add-v c = omega (arith, packing_room c.loop-i.invariant c.loop-i-test.true c.requires (λ i. omega (arith, c.type_inv.name i)), c.from.ensures, c.type_inv.name (c.loop-i.i - 1))

pub loop-i-preserved : goal.loop-i-preserved
loop-i-preserved c = packing_more c.loop-i.invariant c.loop-i-test.true (omega (arith, c.from.ensures))

pub returns : goal.returns
returns c = packing_end c.loop-i.invariant c.loop-i-test.false
