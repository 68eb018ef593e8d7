-- `html_br` meets its contract.
use Rattle.common.specs.Bytes.{codes}
use Rattle.writer.specs.Out.{push_all}
use Rattle.serializer.proofs.HtmlLaws.{html_br_is, html_br_none, depth_ready, depth_works}
use Rattle.serializer.proofs.WorksLaws.{out_able_as, out_as, out_none}
use Rattle.serializer.proofs.html.html_br.Goals as goal

pub put-w-requires : goal.put-w-requires
unfolding codes
put-w-requires c = depth_ready (λ d. push_all (codes "<br>")) (out_able_as (html_br_is _ c.if-n-eq-BR.true) c.requires)

pub returns-then-n-eq-BR : goal.returns-then-n-eq-BR
unfolding codes
returns-then-n-eq-BR c = out_as (html_br_is _ c.if-n-eq-BR.true) (depth_works (λ d. push_all (codes "<br>")) c.put-w.ensures)

pub returns : goal.returns
returns c = out_as (html_br_none _ c.if-n-eq-BR.false) out_none
