-- `pass` meets its contract.
use lib.ListN.{length}
use Rattle.serializer.specs.Serializing.{lent}
use Rattle.visits.specs.Visiting.{passes_left}
use Rattle.writing.proofs.PassLaws.{Passing}
use Rattle.writing.proofs.pass.Given as goal

abbrev pub invariant-loop-seen : goal.invariant-loop-seen
invariant-loop-seen l =
    Passing l.o l.s l.l l.left l.write l.initial.out (length l.initial.stack) l.stack (lent l.numbering l.cells l.out) l.w l.visits l.p

abbrev pub decreases-loop-seen : goal.decreases-loop-seen
decreases-loop-seen l =
    length (passes_left l.s l.l l.left l.w l.stack)
