-- `html_item` meets its contract.
use mathlib.Core.Path.{sym, ◌∙◌}
use lib.Dec.{eqb}
use Rattle.html2text.specs.Serialize.{item_out}
use Rattle.serializer.proofs.HtmlLaws.{html_item_is, html_item_none, depth_ready, depth_works, zero_alone, rises_zero, rises_item_out}
use Rattle.serializer.proofs.WorksLaws.{rises_then, out_first, out_able, out_then, out_alone, out_able_as, out_as, out_none}
use Rattle.serializer.proofs.html.html_item.Goals as goal

pub margin-a-requires : goal.margin-a-requires
margin-a-requires c =
    rw c.collapses.ensures (out_first (rises_then (rises_item_out _ _) rises_zero) (out_able_as (html_item_is _ _ (sym c.is_item.ensures ∙ c.if-is_item.true)) c.requires))

pub put_item-w-requires : goal.put_item-w-requires
put_item-w-requires c =
    depth_ready (item_out c.args.n.end (eqb c.args.n.pre_depth 0))
    (out_first rises_zero (out_able (rw c.collapses.ensures at c.margin-a.ensures) (out_able_as (html_item_is _ _ (sym c.is_item.ensures ∙ c.if-is_item.true)) c.requires)))

pub returns-then-is_item : goal.returns-then-is_item
returns-then-is_item c =
    out_as (html_item_is _ _ (sym c.is_item.ensures ∙ c.if-is_item.true))
    (out_then (out_then (rw c.collapses.ensures at c.margin-a.ensures) (depth_works (item_out c.args.n.end (eqb c.args.n.pre_depth 0)) c.put_item-w.ensures)) (out_alone (zero_alone _)))

pub returns : goal.returns
returns c = out_as (html_item_none _ _ (sym c.is_item.ensures ∙ c.if-is_item.false)) out_none
