-- `add_element` meets its contract. The tests before are t1 to t5.
use mathlib.Core.Path.{sym, ◌∙◌}
use Rattle.tree.specs.Page.{node_at}
use Rattle.collect.proofs.AddedLaws.{element_break, element_link, element_alt, element_brackets, element_input, element_none}
use Rattle.collect.proofs.PieceLaws.{show_same, shows_same, shows_nothing}
use Rattle.collect.proofs.ReadLaws.{read_break, read_link, read_alt, read_brackets, read_input, read_none}
use Rattle.collect.proofs.added.add_element.Goals as goal

pub returns-then-is_break : goal.returns-then-is_break
returns-then-is_break c =
    let n = node_at c.args.s.now c.args.l c.args.v.row in
    let b = sym c.is_break.ensures ∙ c.if-is_break.true in
    let text = element_break c.args.o n c.args.v.end c.requires.visits.tag_is b in
    let read = read_break c.args.o c.args.p.showing n c.args.v.end c.requires.visits.tag_is b in
    shows_nothing text read c.requires.show_ready

pub put_link-requires : goal.put_link-requires
put_link-requires c =
    let n = node_at c.args.s.now c.args.l c.args.v.row in
    let b = sym c.is_break.ensures ∙ c.if-is_break.false in
    let l = sym c.is_link.ensures ∙ c.if-is_link.true in
    let text = element_link c.args.o n c.args.v.end c.requires.visits.tag_is b l in
    let read = read_link c.args.o c.args.p.showing n c.args.v.end c.requires.visits.tag_is b l in
    record { visits = c.requires.visits; show_ready = show_same text read c.requires.show_ready }

pub returns-then-is_link : goal.returns-then-is_link
returns-then-is_link c =
    let n = node_at c.args.s.now c.args.l c.args.v.row in
    let b = sym c.is_break.ensures ∙ c.if-is_break.false in
    let l = sym c.is_link.ensures ∙ c.if-is_link.true in
    let text = element_link c.args.o n c.args.v.end c.requires.visits.tag_is b l in
    let read = read_link c.args.o c.args.p.showing n c.args.v.end c.requires.visits.tag_is b l in
    shows_same text read c.put_link.ensures

pub put_alt-requires : goal.put_alt-requires
put_alt-requires c =
    let n = node_at c.args.s.now c.args.l c.args.v.row in
    let b = sym c.is_break.ensures ∙ c.if-is_break.false in
    let l = sym c.is_link.ensures ∙ c.if-is_link.false in
    let i = sym c.shows_alt.ensures ∙ c.if-shows_alt.true in
    let text = element_alt c.args.o n c.args.v.end c.requires.visits.tag_is b l i in
    let read = read_alt c.args.o c.args.p.showing n c.args.v.end c.requires.visits.tag_is b l i in
    record { visits = c.requires.visits; show_ready = show_same text read c.requires.show_ready }

pub returns-then-shows_alt : goal.returns-then-shows_alt
returns-then-shows_alt c =
    let n = node_at c.args.s.now c.args.l c.args.v.row in
    let b = sym c.is_break.ensures ∙ c.if-is_break.false in
    let l = sym c.is_link.ensures ∙ c.if-is_link.false in
    let i = sym c.shows_alt.ensures ∙ c.if-shows_alt.true in
    let text = element_alt c.args.o n c.args.v.end c.requires.visits.tag_is b l i in
    let read = read_alt c.args.o c.args.p.showing n c.args.v.end c.requires.visits.tag_is b l i in
    shows_same text read c.put_alt.ensures

pub put_bracket-requires : goal.put_bracket-requires
put_bracket-requires c =
    let n = node_at c.args.s.now c.args.l c.args.v.row in
    let b = sym c.is_break.ensures ∙ c.if-is_break.false in
    let l = sym c.is_link.ensures ∙ c.if-is_link.false in
    let i = sym c.shows_alt.ensures ∙ c.if-shows_alt.false in
    let k = sym c.shows_brackets.ensures ∙ c.if-shows_brackets.true in
    let text = element_brackets c.args.o n c.args.v.end c.requires.visits.tag_is b l i k in
    let read = read_brackets c.args.o c.args.p.showing n c.args.v.end c.requires.visits.tag_is b l i k in
    show_same text read c.requires.show_ready

pub returns-then-shows_brackets : goal.returns-then-shows_brackets
returns-then-shows_brackets c =
    let n = node_at c.args.s.now c.args.l c.args.v.row in
    let b = sym c.is_break.ensures ∙ c.if-is_break.false in
    let l = sym c.is_link.ensures ∙ c.if-is_link.false in
    let i = sym c.shows_alt.ensures ∙ c.if-shows_alt.false in
    let k = sym c.shows_brackets.ensures ∙ c.if-shows_brackets.true in
    let text = element_brackets c.args.o n c.args.v.end c.requires.visits.tag_is b l i k in
    let read = read_brackets c.args.o c.args.p.showing n c.args.v.end c.requires.visits.tag_is b l i k in
    shows_same text read c.put_bracket.ensures

pub put_input-requires : goal.put_input-requires
put_input-requires c =
    let n = node_at c.args.s.now c.args.l c.args.v.row in
    let b = sym c.is_break.ensures ∙ c.if-is_break.false in
    let l = sym c.is_link.ensures ∙ c.if-is_link.false in
    let i = sym c.shows_alt.ensures ∙ c.if-shows_alt.false in
    let k = sym c.shows_brackets.ensures ∙ c.if-shows_brackets.false in
    let f = sym c.shows_input.ensures ∙ c.if-shows_input.true in
    let text = element_input c.args.o n c.args.v.end c.requires.visits.tag_is b l i k f in
    let read = read_input c.args.o c.args.p.showing n c.args.v.end c.requires.visits.tag_is b l i k f in
    record { visits = c.requires.visits; show_ready = show_same text read c.requires.show_ready }

pub returns-then-shows_input : goal.returns-then-shows_input
returns-then-shows_input c =
    let n = node_at c.args.s.now c.args.l c.args.v.row in
    let b = sym c.is_break.ensures ∙ c.if-is_break.false in
    let l = sym c.is_link.ensures ∙ c.if-is_link.false in
    let i = sym c.shows_alt.ensures ∙ c.if-shows_alt.false in
    let k = sym c.shows_brackets.ensures ∙ c.if-shows_brackets.false in
    let f = sym c.shows_input.ensures ∙ c.if-shows_input.true in
    let text = element_input c.args.o n c.args.v.end c.requires.visits.tag_is b l i k f in
    let read = read_input c.args.o c.args.p.showing n c.args.v.end c.requires.visits.tag_is b l i k f in
    shows_same text read c.put_input.ensures

pub returns : goal.returns
returns c =
    let n = node_at c.args.s.now c.args.l c.args.v.row in
    let b = sym c.is_break.ensures ∙ c.if-is_break.false in
    let l = sym c.is_link.ensures ∙ c.if-is_link.false in
    let i = sym c.shows_alt.ensures ∙ c.if-shows_alt.false in
    let k = sym c.shows_brackets.ensures ∙ c.if-shows_brackets.false in
    let f = sym c.shows_input.ensures ∙ c.if-shows_input.false in
    let text = element_none c.args.o n c.args.v.end c.requires.visits.tag_is b l i k f in
    let read = read_none c.args.o c.args.p.showing n c.args.v.end c.requires.visits.tag_is b l i k f in
    shows_nothing text read c.requires.show_ready
