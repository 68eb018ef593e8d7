-- `is_free` meets its contract.
use native.Mathlib.Omega.{arith}
use borrow.Author.Tests.{eqb-true}
use Rattle.common.proofs.LanesLaws.{laned_small, differs_sum}
use Rattle.unescape.specs.Unescape.{ampersand}
use Rattle.unescape.proofs.FreeLaws.{free_octets}
use Rattle.unescape.proofs.is_free.Goals as goal

pub overflow_add-other : goal.overflow_add-other
overflow_add-other c = record { fits = laned_small (differs_sum c.args.w (omega arith) ampersand (omega arith)) }

pub returns : goal.returns
returns c = λ t. free_octets c.args.w (omega arith) (eqb-true _ _ t)
