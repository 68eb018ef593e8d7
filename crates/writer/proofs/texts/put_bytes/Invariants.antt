-- `put_bytes` meets its contract.
use lib.ListN.{take}
use Rattle.writer.specs.Texts.{PutsPart}
use Rattle.writer.proofs.PlacesLaws.{places}
use Rattle.writer.proofs.texts.put_bytes.Given as goal

abbrev pub invariant-loop-i : goal.invariant-loop-i
invariant-loop-i l =
    PutsPart l.write l.squeeze l.space l.times l.initial.out l.at l.kept (take l.i l.s) l.out (places l.past l.behind l.last l.read)
