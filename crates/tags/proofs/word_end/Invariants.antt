-- `word_end` meets its contract.
use Rattle.tags.proofs.LineLaws.{Within}
use Rattle.tags.proofs.word_end.Given as goal

abbrev pub invariant-loop-i : goal.invariant-loop-i
invariant-loop-i l = Within l.words l.from l.i
