-- `controls` meets its contract.
use native.Mathlib.Omega.{arith}
use lib.Bits.{bit_and, bit_or, and_le_r}
use Prim.Native.Nat.{ℕ, ◌+◌, ◌≤◌}
use Rattle.common.proofs.LanesLaws.{laned_small}
use Rattle.writer.proofs.PlainLaws.{printed, printed_sum}
use Rattle.writer.proofs.words.controls.Goals as goal

-- the marks are among those of all eight
marked : (w : ℕ) → bit_and (bit_or (bit_and w 0x7F7F7F7F7F7F7F7F + 0x6060606060606060) w) 0x8080808080808080 ≤ 0x8080808080808080
marked w = and_le_r (bit_or (bit_and w 0x7F7F7F7F7F7F7F7F + 0x6060606060606060) w) 0x8080808080808080

pub overflow_add-result : goal.overflow_add-result
overflow_add-result c = record { fits = laned_small (printed_sum c.args.w (omega arith)) }

pub overflow_sub-result : goal.overflow_sub-result
overflow_sub-result c = marked c.args.w

pub returns : goal.returns
returns c = λ t. printed c.args.w (omega arith) (omega (arith, t, marked c.args.w))
