-- `added::put_alt` meets its contract.
use mathlib.Core.Path.{ap}
use mathlib.Core.Bool.{false}
use Rattle.common.specs.Bytes.{Bytes, codes}
use Rattle.serializer.specs.Progress.{read_of}
use Rattle.serializer.proofs.ShowingLaws.{ready_less}
use Rattle.collect.proofs.Attributes.{inside_at, alt_absent, alt_at}
use Rattle.collect.proofs.PieceLaws.{show_same, shows_same}
use Rattle.collect.proofs.added.put_alt.Goals as goal

pub put_missing_alt-requires : goal.put_missing_alt-requires
unfolding codes
put_missing_alt-requires c =
    let absent = alt_absent c.requires.visits c.attribute.ensures c.args.o c.in-None.is in
    show_same absent (ap (λ (t : Bytes). read_of c.args.p.showing false t) absent) c.requires.show_ready

pub part-alt-requires : goal.part-alt-requires
part-alt-requires c = (c.requires.visits.accepted.lined, inside_at c.requires.visits _ c.attribute.ensures c.in-Some.is)

pub show-requires : goal.show-requires
unfolding codes
show-requires c =
    let there = alt_at c.requires.visits c.attribute.ensures c.args.o c.in-Some.is c.part-alt.ensures in
    ready_less _ (show_same there (ap (λ (t : Bytes). read_of c.args.p.showing false t) there) c.requires.show_ready)

pub returns-in-None : goal.returns-in-None
unfolding codes
returns-in-None c =
    let absent = alt_absent c.requires.visits c.attribute.ensures c.args.o c.in-None.is in
    shows_same absent (ap (λ (t : Bytes). read_of c.args.p.showing false t) absent) c.put_missing_alt.ensures

pub returns-in-Some : goal.returns-in-Some
unfolding codes
returns-in-Some c =
    let there = alt_at c.requires.visits c.attribute.ensures c.args.o c.in-Some.is c.part-alt.ensures in
    shows_same there (ap (λ (t : Bytes). read_of c.args.p.showing false t) there) c.show.ensures
