-- `entry::marked_node` meets its contract.
use mathlib.Core.Path.{◌≡◌}
use mathlib.Core.Bool.{◌&&◌, not}
use Rattle.html2text.specs.Collect.{is_break, is_link}
use Rattle.collect.proofs.entry.marked_node.Goals.{then-n, else-n, then-n-2, else-n-2}
use Rattle.collect.proofs.entry.marked_node.Goals as goal

pub returns-then-n-3 : goal.returns-then-n-3
returns-then-n-3 c =
    let a = c.args in
    let collapse_margins : c.if-n.result ≡ (a.n.collapse_margins && not (is_break a.o a.tag)) =
    elim c.if-n.branch [ then-n w ↦ rw (w.result-is, w.if-n.true, w.is_break.ensures) | else-n w ↦ rw (w.result-is, w.if-n.false) ] in
    let block : c.if-n-2.result ≡ (a.n.block && not (is_link a.o a.tag)) =
    elim c.if-n-2.branch [ then-n-2 w ↦ rw (w.result-is, w.if-n-2.true, w.is_link.ensures) | else-n-2 w ↦ rw (w.result-is, w.if-n-2.false) ] in
    rw (collapse_margins, block, c.if-n-3.true, c.is_link_tag.ensures)

pub returns-else-n-3 : goal.returns-else-n-3
returns-else-n-3 c =
    let a = c.args in
    let collapse_margins : c.if-n.result ≡ (a.n.collapse_margins && not (is_break a.o a.tag)) =
    elim c.if-n.branch [ then-n w ↦ rw (w.result-is, w.if-n.true, w.is_break.ensures) | else-n w ↦ rw (w.result-is, w.if-n.false) ] in
    let block : c.if-n-2.result ≡ (a.n.block && not (is_link a.o a.tag)) =
    elim c.if-n-2.branch [ then-n-2 w ↦ rw (w.result-is, w.if-n-2.true, w.is_link.ensures) | else-n-2 w ↦ rw (w.result-is, w.if-n-2.false) ] in
    rw (collapse_margins, block, c.if-n-3.false)
