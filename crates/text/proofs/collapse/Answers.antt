-- `collapse` meets its contract.
use native.Mathlib.Omega.{arith}
use Rattle.common.proofs.Answers.{answer_written}
use Rattle.text.specs.Text.{collapse}
use Rattle.text.proofs.collapse.Goals as goal

pub returns-clause-buffer : goal.returns-clause-buffer
returns-clause-buffer c = (answer_written (collapse c.args.s.now) c.args.out.now (omega arith) c.put_collapsed-n.ensures c.clear.ensures).1
