-- `questions::find_row` meets its contract.
use Rattle.tree.proofs.QuestionsLaws.{lookup_there, lookup_missing}
use Rattle.tree.proofs.questions.find_row.Goals as goal

pub returns-then-i-l : goal.returns-then-i-l
returns-then-i-l c = lookup_there _ _ _ c.if-i-l.true c.row_at.ensures

pub returns : goal.returns
returns c = lookup_missing _ _ _ c.if-i-l.false
