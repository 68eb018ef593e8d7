-- `finish_html` meets its contract.
use native.Mathlib.Omega.{arith}
use Rattle.serializer.proofs.HtmlLaws.{finish_able, finish_works, margins_tag}
use Rattle.serializer.proofs.MarginLaws.{rises_block}
use Rattle.serializer.proofs.WorksLaws.{margins_after, out_first, out_then, out_alone}
use Rattle.serializer.proofs.html.finish_html.Goals as goal

pub html_tag-a-requires : goal.html_tag-a-requires
html_tag-a-requires c =
    record { margins_in_bounds = c.requires.margins_in_bounds; able_out = rw c.block_after_marks.ensures (out_first (rises_block _ _) (finish_able _ _ c.block_after_tag-block.ensures c.requires.able_out)) }

pub block_margin-requires : goal.block_margin-requires
block_margin-requires c =
    let r = c.requires.able_out in
    omega (arith, margins_after (margins_tag _ _ _) r.able (c.html_tag-a.ensures.at r.numbering r.cells), c.requires.margins_in_bounds)

pub returns : goal.returns
returns c =
    finish_works _ _ c.block_after_tag-block.ensures
    (out_then (rw c.block_after_marks.ensures at c.html_tag-a.ensures) (out_alone c.block_margin.ensures))
