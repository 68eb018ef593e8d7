-- `html_marks` meets its contract.
use Rattle.serializer.proofs.HtmlLaws.{html_marks_is, rises_html_pre, rises_html_br}
use Rattle.serializer.proofs.WorksLaws.{rises_then, out_first, out_able, out_then, out_able_as, out_as}
use Rattle.serializer.proofs.html.html_marks.Goals as goal

pub html_item-a-requires : goal.html_item-a-requires
html_item-a-requires c = out_first (rises_then (rises_html_pre _) (rises_html_br _)) (out_able_as (html_marks_is _ _) c.requires)

pub html_pre-b-requires : goal.html_pre-b-requires
html_pre-b-requires c = out_first (rises_html_br _) (out_able c.html_item-a.ensures (out_able_as (html_marks_is _ _) c.requires))

pub html_br-requires : goal.html_br-requires
html_br-requires c = out_able (out_then c.html_item-a.ensures c.html_pre-b.ensures) (out_able_as (html_marks_is _ _) c.requires)

pub returns : goal.returns
returns c = out_as (html_marks_is _ _) (out_then (out_then c.html_item-a.ensures c.html_pre-b.ensures) c.html_br.ensures)
