-- `put_octets` meets its contract.
use mathlib.Core.Path.{◌≡◌}
use Prim.Native.Nat.{◌-◌}
use lib.ListN.{take, drop}
use Rattle.common.specs.Word.{octets}
use Rattle.writer.specs.Texts.{PutsPart}
use Rattle.writer.proofs.PlacesLaws.{places}
use Rattle.writer.proofs.texts.put_octets.Given as goal

abbrev pub invariant-loop : goal.invariant-loop
invariant-loop l =
    (octets (8 - l.counter) l.rest ≡ drop l.counter (octets 8 l.word))
    × PutsPart l.write l.squeeze l.space l.times l.initial.out l.at l.kept (take l.counter (octets 8 l.word)) l.out (places l.past l.behind l.last l.counter)
