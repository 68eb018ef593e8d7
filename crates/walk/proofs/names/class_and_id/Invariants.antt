-- `names::class_and_id` meets its contract.
use Rattle.common.specs.Bytes.{codes}
use Rattle.walk.proofs.NameLaws.{LengthFrom}
use Rattle.walk.proofs.names.class_and_id.Given as goal

abbrev pub invariant-loop-n : goal.invariant-loop-n
invariant-loop-n l = LengthFrom l.s l.l l.from l.count (codes "class") l.n l.class × LengthFrom l.s l.l l.from l.count (codes "id") l.n l.id

abbrev pub decreases-loop-n : goal.decreases-loop-n
decreases-loop-n l = l.n
