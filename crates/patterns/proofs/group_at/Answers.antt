-- `group_at` meets its contract.
use native.Mathlib.Omega.{arith}
use mathlib.Core.Path.{sym}
use Rattle.patterns.proofs.CandidateLaws.{group_past}
use Rattle.patterns.proofs.group_at.Goals as goal

pub returns-else-at-eq0 : goal.returns-else-at-eq0
returns-else-at-eq0 c = (sym (group_past c.args.at c.if-at-eq0.false), omega arith)
