-- `add_text` meets its contract.
use Rattle.serializer.proofs.ShowingLaws.{ready_less}
use Rattle.collect.proofs.AddedLaws.{value_inside, added_none, added_value, read_value, read_no_value}
use Rattle.collect.proofs.PieceLaws.{show_same, shows_same, shows_nothing}
use Rattle.collect.proofs.added.add_text.Goals as goal

pub returns-then-v-eq0 : goal.returns-then-v-eq0
returns-then-v-eq0 c = let p = c.requires in shows_nothing (added_none p.visits.0 c.args.o c.args.current p.visits.1 c.if-v-eq0.true) (read_no_value p.visits.0 c.args.o c.args.p.showing c.args.current p.visits.1 c.if-v-eq0.true) p.show_ready

pub part-value-requires : goal.part-value-requires
part-value-requires c = let p = c.requires.visits.0 in (p.accepted.lined, value_inside p)

pub show-requires : goal.show-requires
show-requires c = let p = c.requires in ready_less _ (show_same (added_value p.visits.0 c.args.o c.args.current p.visits.1 c.part-value.ensures c.is_escaped.ensures) (read_value p.visits.0 c.args.o c.args.p.showing c.args.current p.visits.1 c.part-value.ensures c.is_escaped.ensures) p.show_ready)

pub returns : goal.returns
returns c = let p = c.requires in shows_same (added_value p.visits.0 c.args.o c.args.current p.visits.1 c.part-value.ensures c.is_escaped.ensures) (read_value p.visits.0 c.args.o c.args.p.showing c.args.current p.visits.1 c.part-value.ensures c.is_escaped.ensures) c.show.ensures
