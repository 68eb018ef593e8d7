-- `escape` meets its contract.
use native.Mathlib.Omega.{arith}
use Rattle.common.proofs.Answers.{answer_written}
use Rattle.text.specs.Text.{escape}
use Rattle.text.proofs.escape.Goals as goal

pub returns-clause-buffer : goal.returns-clause-buffer
returns-clause-buffer c = (answer_written (escape c.args.s.now) c.args.out.now (omega arith) c.put_escaped-n.ensures c.clear.ensures).1
