-- `add` meets its contract.
use mathlib.Core.Path.{◌∙◌}
use Rattle.tree.specs.Page.{node_at}
use Rattle.collect.proofs.AddedLaws.{added_element, element_early, read_element}
use Rattle.collect.proofs.PieceLaws.{show_same, shows_same, shows_nothing}
use Rattle.collect.proofs.ReadLaws.{read_early}
use Rattle.collect.proofs.added.add.Goals as goal

pub returns-then-v-lt-A : goal.returns-then-v-lt-A
returns-then-v-lt-A c = let p = c.requires in shows_nothing (added_element p.visits c.args.o c.args.current c.if-v-eq-OTHER.false ∙ element_early c.args.o (node_at c.args.s.now c.args.l c.args.v.row) c.args.v.end c.requires.visits.tag_is c.if-v-lt-A.true) (read_element p.visits c.args.o c.args.p.showing c.args.current c.if-v-eq-OTHER.false ∙ read_early c.args.o c.args.p.showing (node_at c.args.s.now c.args.l c.args.v.row) c.args.v.end c.requires.visits.tag_is c.if-v-lt-A.true) p.show_ready

pub add_element-requires : goal.add_element-requires
add_element-requires c = let p = c.requires in record { visits = p.visits; show_ready = show_same (added_element p.visits c.args.o c.args.current c.if-v-eq-OTHER.false) (read_element p.visits c.args.o c.args.p.showing c.args.current c.if-v-eq-OTHER.false) p.show_ready }

pub returns : goal.returns
returns c = let p = c.requires in shows_same (added_element p.visits c.args.o c.args.current c.if-v-eq-OTHER.false) (read_element p.visits c.args.o c.args.p.showing c.args.current c.if-v-eq-OTHER.false) c.add_element.ensures
