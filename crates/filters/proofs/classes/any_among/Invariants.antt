-- `classes::any_among` meets its contract.
use Rattle.byte_regex.specs.Joined.{joined}
use Rattle.filters.proofs.ClassLaws.{Asking}
use Rattle.filters.proofs.classes.any_among.Given as goal

abbrev pub invariant-loop-pattern : goal.invariant-loop-pattern
invariant-loop-pattern l = Asking l.wanted (joined l.class l.id) l.pattern-index
