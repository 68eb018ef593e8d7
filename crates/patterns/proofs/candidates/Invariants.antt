-- `candidates` meets its contract.
use Rattle.byte_regex.specs.Joined.{joined}
use Rattle.patterns.proofs.SearchLaws.{Collecting}
use Rattle.patterns.proofs.candidates.Given as goal

abbrev pub invariant-loop-at : goal.invariant-loop-at
invariant-loop-at l = Collecting (joined l.class l.id) l.set l.at
