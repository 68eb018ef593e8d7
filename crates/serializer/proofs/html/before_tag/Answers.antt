-- `before_tag` meets its contract.
use mathlib.Core.Path.{sym, ◌∙◌}
use Rattle.serializer.proofs.HtmlLaws.{add_alone, before_able, before_works, before_none}
use Rattle.serializer.proofs.TextLaws.{clear_alone, rises_clear}
use Rattle.serializer.proofs.WorksLaws.{out_first, out_able, out_then, out_alone}
use Rattle.serializer.proofs.html.before_tag.Goals as goal

pub margin-r-requires : goal.margin-r-requires
margin-r-requires c =
    rw c.collapses.ensures
    (out_first rises_clear (out_able (out_alone (add_alone _ c.args.n c.args.block c.tag_margins.ensures)) (before_able c.args.n c.args.block (sym c.opens_tag.ensures ∙ c.if-opens_tag.true) c.requires.able_out)))

pub returns-then-opens_tag : goal.returns-then-opens_tag
returns-then-opens_tag c =
    before_works _ _ (sym c.opens_tag.ensures ∙ c.if-opens_tag.true)
    (out_then (out_then (out_alone (add_alone _ c.args.n c.args.block c.tag_margins.ensures)) (rw c.collapses.ensures at c.margin-r.ensures)) (out_alone (clear_alone _)))

pub returns : goal.returns
returns c = before_none _ _ (sym c.opens_tag.ensures ∙ c.if-opens_tag.false)
