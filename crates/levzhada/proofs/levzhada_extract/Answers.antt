-- `levzhada_extract` meets its contract.
use mathlib.Core.Path.{sym, ◌∙◌}
use Rattle.levzhada.proofs.Lines.{by_line, wrong_line}
use Rattle.levzhada.proofs.levzhada_extract.Goals as goal

pub returns-in_default : goal.returns-in_default
returns-in_default c = let q = wrong_line _ _ c.args.out.now c.args.work.now (sym c.in_default.is ∙ c.read_line.ensures) c.wrong_options.ensures in record { answer = q.0; text = q.1; cleared = q.2 }

pub returns : goal.returns
returns c = let x = c.extract.ensures in let q = by_line _ _ c.args.out.now c.args.work.now (sym c.in-Some.is ∙ c.read_line.ensures) c.to_answer.ensures (x.answer, x.text, x.cleared) in record { answer = q.0; text = q.1; cleared = q.2 }
