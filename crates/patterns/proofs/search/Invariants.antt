-- `search` meets its contract.
use Rattle.byte_regex.specs.Joined.{joined}
use Rattle.patterns.specs.Numbers.{number_of}
use Rattle.patterns.proofs.SearchLaws.{Searching}
use Rattle.patterns.proofs.search.Given as goal

abbrev pub invariant-loop-at : goal.invariant-loop-at
invariant-loop-at l = Searching (number_of l.pattern) (joined l.class l.id) l.at
