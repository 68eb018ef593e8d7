-- `html_pre` meets its contract.
use Rattle.common.specs.Bytes.{codes}
use Rattle.writer.specs.Out.{push_all}
use Rattle.serializer.proofs.HtmlLaws.{html_pre_end, html_pre_begin, html_pre_none, depth_ready, depth_works, zero_alone, rises_zero, rises_push}
use Rattle.serializer.proofs.WorksLaws.{rises_then, out_first, out_able, out_then, out_alone, out_able_as, out_as, out_none}
use Rattle.serializer.proofs.html.html_pre.Goals as goal

pub put-w-requires : goal.put-w-requires
unfolding codes
put-w-requires c = depth_ready (λ d. push_all (codes "</pre>")) (out_first rises_zero (out_able_as (html_pre_end _ c.if-n-eq-PRE.true c.if-n.true) c.requires))

pub returns-then-n : goal.returns-then-n
unfolding codes
returns-then-n c = out_as (html_pre_end _ c.if-n-eq-PRE.true c.if-n.true) (out_then (depth_works (λ d. push_all (codes "</pre>")) c.put-w.ensures) (out_alone (zero_alone _)))

pub margin-a-requires : goal.margin-a-requires
margin-a-requires c =
    rw c.collapses.ensures (out_first (rises_then (rises_push (codes "<pre>")) rises_zero) (out_able_as (html_pre_begin _ c.if-n-eq-PRE.true c.if-n.false) c.requires))

pub put-w-requires-then-n-eq-PRE : goal.put-w-requires-then-n-eq-PRE
unfolding codes
put-w-requires-then-n-eq-PRE c =
    depth_ready (λ d. push_all (codes "<pre>"))
    (out_first rises_zero (out_able (rw c.collapses.ensures at c.margin-a.ensures) (out_able_as (html_pre_begin _ c.if-n-eq-PRE.true c.if-n.false) c.requires)))

pub returns-then-n-eq-PRE : goal.returns-then-n-eq-PRE
unfolding codes
returns-then-n-eq-PRE c =
    out_as (html_pre_begin _ c.if-n-eq-PRE.true c.if-n.false)
    (out_then (out_then (rw c.collapses.ensures at c.margin-a.ensures) (depth_works (λ d. push_all (codes "<pre>")) c.put-w-then-n-eq-PRE.ensures)) (out_alone (zero_alone _)))

pub returns : goal.returns
returns c = out_as (html_pre_none _ c.if-n-eq-PRE.false) out_none
