-- `is_bare` meets its contract.
use native.Mathlib.Omega.{arith}
use borrow.Author.Tests.{eqb-true}
use Rattle.common.proofs.LanesLaws.{laned_small, differs_sum}
use Rattle.writer.proofs.PlainLaws.{angle_sum, bares, bare}
use Rattle.writer.proofs.words.is_bare.Goals as goal

pub overflow_add-ampersand : goal.overflow_add-ampersand
overflow_add-ampersand c = record { fits = laned_small (differs_sum c.args.w (omega arith) 0x26 (omega arith)) }

pub overflow_add-quote : goal.overflow_add-quote
overflow_add-quote c = record { fits = laned_small (differs_sum c.args.w (omega arith) 0x22 (omega arith)) }

pub overflow_add-angle : goal.overflow_add-angle
overflow_add-angle c = record { fits = laned_small (angle_sum c.args.w (omega arith)) }

pub returns : goal.returns
returns c = λ t. bare (bares c.args.w (omega arith)) (eqb-true _ _ t)
