-- `count_row` meets its contract.
use Rattle.std.proofs.Common.{sym, refl, ◌∙◌}
use Rattle.tree.specs.Page.{node_at}
use Rattle.tree.proofs.PageLaws.{data_is, data_none}
use Rattle.links.proofs.CountLaws.{row_other, row_text, row_room, around_link, around_other}
use Rattle.links.proofs.LinkLaws.{link_no_data}
use Rattle.links.proofs.counts.count_row.Goals as goal

pub returns-then-is_link : goal.returns-then-is_link
returns-then-is_link c =
    let a = c.args in
    let n = node_at a.s.now a.l a.j in
    let e = sym c.is_link.ensures ∙ c.if-is_link.true in
    record { counted = row_other n a.r.depth a.c a.around.now c.min-low.ensures (link_no_data n e); links = around_link n a.r.depth a.around.now e }

pub returns-then-r-ne3 : goal.returns-then-r-ne3
returns-then-r-ne3 c =
    let a = c.args in
    let n = node_at a.s.now a.l a.j in
    let e = sym c.is_link.ensures ∙ c.if-is_link.false in
    record { counted = row_other n a.r.depth a.c a.around.now c.min-low.ensures (data_none _ _ _ c.requires.2 c.if-r-ne3.true); links = around_other n a.r.depth a.around.now e }

pub add_text-requires : goal.add_text-requires
add_text-requires c =
    let a = c.args in
    row_room (node_at a.s.now a.l a.j) a.r.depth a.c a.around.now c.min-low.ensures (data_is _ _ _ c.requires.2 c.if-r-ne3.false ∙ sym c.part.ensures) c.requires.3

pub returns : goal.returns
returns c =
    let a = c.args in
    let n = node_at a.s.now a.l a.j in
    let e = sym c.is_link.ensures ∙ c.if-is_link.false in
    record { counted = row_text n a.r.depth a.c a.around.now c.min-low.ensures (data_is _ _ _ c.requires.2 c.if-r-ne3.false ∙ sym c.part.ensures) refl refl c.add_text.ensures; links = around_other n a.r.depth a.around.now e }
