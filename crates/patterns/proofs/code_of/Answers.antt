-- `code_of` meets its contract.
use mathlib.Core.Path.{◌≡◌}
use native.Mathlib.Omega.{arith}
use lib.ListN.{get_or}
use Rattle.patterns.specs.Candidates.{code_of}
use Rattle.patterns.proofs.ByteCodes.{code_lt}
use borrow.Author.Rules.{rules}
use Rattle.patterns.proofs.code_of.Goals.{After-from}
use Rattle.patterns.proofs.code_of.Goals as goal

read : (d : After-from) → get_or d.lent_masks.result.now d.from.result 0 ≡ code_of d.args.x
read d = rw d.from.ensures (d.lent_masks.ensures.codes d.args.x (search rules))

pub overflow_cast-result : goal.overflow_cast-result
overflow_cast-result c = omega (arith, read (goal.at.overflow_cast-result c).After-from, code_lt c.args.x)

pub returns : goal.returns
returns c = read (goal.at.returns c).After-from
