-- `spaces` meets its contract.
use native.Mathlib.Omega.{arith}
use Rattle.common.proofs.LanesLaws.{laned_small, differs_sum}
use Rattle.writer.proofs.PlainLaws.{spaces_are}
use Rattle.writer.proofs.words.spaces.Goals as goal

pub overflow_add-other : goal.overflow_add-other
overflow_add-other c = record { fits = laned_small (differs_sum c.args.w (omega arith) 0x20 (omega arith)) }

pub returns : goal.returns
returns c = spaces_are c.args.w (omega arith)
